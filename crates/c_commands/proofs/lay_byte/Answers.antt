-- `lay_byte` meets its contract: the two words laid are the two nibbles' words.
use mathlib.Core.Path.{ap, ap₂, ◌∙◌}
use mathlib.Core.List.{List, [], ◌∷◌}
use Prim.Native.Nat.{ℕ, ◌+◌, ◌/◌}
use Rattle.c_commands.specs.CommandBytes.{laid}
use Rattle.c_commands.proofs.Laid.{laid_byte}
use Rattle.c_commands.proofs.TwoWords.{halves}
use Rattle.c_commands.proofs.lay_byte.Goals as goal

pub returns : goal.returns
returns c =
    let a = c.args in
    let both = c.two_words-both in
    let words = halves a.byte both.result both.ensures in
    c.lay_word-2.ensures
    ∙ ap (λ (l : List ℕ). laid l (a.at + 2) (both.result / 65536 ∷ [])) c.lay_word.ensures
    ∙ ap₂ (λ (x y : ℕ). laid (laid a.out.now a.at (x ∷ [])) (a.at + 2) (y ∷ [])) words.0 words.1
    ∙ laid_byte a.out.now a.at a.byte
