-- `lay_line` meets its contract: preamble, characters, fill pairs and stop character, laid one behind the other, are the line.
use mathlib.Core.Path.{ap, ◌∙◌}
use mathlib.Core.List.{List, [], ◌∷◌}
use Prim.Native.Nat.{ℕ, ◌+◌, ◌*◌}
use lib.ListN.{length}
use Rattle.characters.specs.Character.{stop}
use Rattle.lines.specs.Line.{characters_of}
use Rattle.questions.specs.Bytes.{fill_pairs}
use Rattle.c_commands.specs.CommandBytes.{laid}
use Rattle.c_commands.proofs.Laid.{laid_line}
use Rattle.c_commands.proofs.lay_line.Goals as goal

pub returns : goal.returns
returns c =
    let a = c.args in
    let start = 4 * length a.head.now + 2 in
    c.lay_word-2.ensures
    ∙ ap (λ (l : List ℕ). laid l (start + 8 * a.pairs) (stop ∷ []))
    (c.lay_pairs.ensures
    ∙ ap (λ (l : List ℕ). laid l start (characters_of (fill_pairs a.pairs)))
    (c.lay_bytes.ensures ∙ ap (λ (l : List ℕ). laid l 2 (characters_of a.head.now)) c.lay_word.ensures))
    ∙ laid_line a.out.now a.head.now a.pairs
