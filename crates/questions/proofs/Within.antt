-- Whether a number is within a range, as a test of its two bounds.
use mathlib.Core.Path.{◌≡◌, ◌∙◌}
use mathlib.Core.Bool.{Bool, false, ◌&&◌}
use mathlib.Core.Logic.{⊎_elim}
use Prim.Native.Nat.{ℕ, ◌≤◌, ◌<◌}
use native.Mathlib.Omega.{arith}
use lib.Dec.{leb}
use borrow.Author.Tests.{le-leb, lt-leb, lt-ltb, le-ltb, eq-eqb, ne_eqb}
use Rattle.ground.proofs.Test.{below_or_not}
use Rattle.std.specs.Ordering.{is_le, nat_cmp}
use Rattle.std.specs.Prelude.{Some}
use Rattle.std.specs.declared.ops.RangeInclusive.{RangeInclusive}
use Rattle.std.specs.Range.{range_inclusive_contains, range_inclusive_start, range_inclusive_end, range_inclusive_exhausted}

not_above : (a b : ℕ) → is_le (nat_cmp a b) ≡ leb a b
not_above a b =
    ⊎_elim (λ (low : a < b). simp (lt-ltb a b low, le-leb a b (omega arith)))
    (λ (high : b ≤ a). ⊎_elim (λ (above : b < a). simp (le-ltb a b high, ne_eqb a b (omega arith), lt-leb a b above))
    (λ (least : a ≤ b). simp (le-ltb a b high, eq-eqb a b (omega arith), le-leb a b least)) (below_or_not b a))
    (below_or_not a b)

-- what `(least..=most).contains(&x)` answers
pub within : {r : Bool} (least most x : ℕ) (range : RangeInclusive ℕ) → r ≡ range_inclusive_contains (λ (a b : ℕ). Some (nat_cmp a b)) range x
    → range_inclusive_start range ≡ least → range_inclusive_end range ≡ most → range_inclusive_exhausted range ≡ false
    → r ≡ leb least x && leb x most
within least most x range is starts ends fresh =
    is ∙ simp (starts, ends, fresh, not_above least x, not_above x most)
