-- `lay_word` meets its contract: the low byte, then the high one.
use mathlib.Core.Path.{◌≡◌, ap, ◌∙◌}
use mathlib.Core.List.{List, [], ◌∷◌}
use Prim.Native.Nat.{ℕ, ◌+◌, ◌%◌}
use native.Mathlib.Omega.{arith}
use lib.ListN.{get_or, set, length-set}
use Rattle.packing.specs.Words.{low_high}
use Rattle.c_commands.proofs.Laid.{laid_word}
use Rattle.c_commands.proofs.lay_word.Goals as goal

pub bounds-out-at-2 : goal.bounds-out-at-2
bounds-out-at-2 c = simp length-set (omega arith)

pub returns : goal.returns
returns c =
    let a = c.args in
    let two : c.to_le_bytes.result ≡ low_high a.word = c.to_le_bytes.ensures ∙ ap (λ (high : ℕ). a.word % 256 ∷ high ∷ []) (omega arith) in
    ap (λ (l : List ℕ). set (set a.out.now a.at (get_or l 0 0)) (a.at + 1) (get_or l 1 0)) two ∙ laid_word a.out.now a.at a.word
