-- `is_framed` meets its contract: the two ends decide, and a line of no words has none.
use mathlib.Core.Path.{◌≡◌, refl, sym, ap, ◌∙◌}
use mathlib.Core.Bool.{Bool, false, ◌&&◌}
use mathlib.Core.List.{List, [], ◌∷◌}
use Prim.Native.Nat.{ℕ, ◌-◌}
use native.Mathlib.Omega.{arith}
use lib.Dec.{eqb}
use lib.ListN.{length, get_or}
use Rattle.characters.specs.Character.{preamble, stop}
use borrow.Author.Tests.{eq-eqb, eqb-true, ne_eqb}
use Rattle.scanning.specs.Frame.{framed}
use Rattle.scanning.proofs.Ends.{framed_ends}
use Rattle.scanning.proofs.is_framed.Goals as goal

-- a line of no words has no ends
unframed : (l : List ℕ) → length l ≡ 0 → false ≡ framed l
unfolding framed
unframed [] e = refl
unframed (w ∷ l) e = absurd (omega arith)

pub returns-then-is_empty : goal.returns-then-is_empty
returns-then-is_empty c = unframed c.args.line.now (eqb-true _ 0 (sym c.is_empty.ensures ∙ c.if-is_empty.true))

pub returns-else-line-eq-PREAMBLE : goal.returns-else-line-eq-PREAMBLE
unfolding framed
returns-else-line-eq-PREAMBLE c = simp (ne_eqb _ _ c.if-line-eq-PREAMBLE.false)

pub returns-then-line-eq-PREAMBLE : goal.returns-then-line-eq-PREAMBLE
returns-then-line-eq-PREAMBLE c =
    let l = c.args.line.now in
    sym (framed_ends l ∙ ap (λ (t : Bool). t && eqb (get_or l (length l - 1) 0) stop) (eq-eqb (get_or l 0 0) preamble c.if-line-eq-PREAMBLE.true))
