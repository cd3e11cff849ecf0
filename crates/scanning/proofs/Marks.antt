-- Marks of a line's words put together, which no word stops: where a mark is 0 exactly for a word that passes the test, all of them are 0
-- exactly where no word fails it.
use mathlib.Core.Path.{◌≡◌, refl, sym, ap, ap₂, ◌∙◌}
use mathlib.Core.Bool.{Bool, true, false, ◌&&◌, and-true, and-false}
use mathlib.Core.List.{List}
use Prim.Native.Nat.{ℕ, ◌+◌, ◌-◌, ◌≤◌, ◌<◌}
use native.Mathlib.Omega.{arith}
use lib.Bits.{bit_or, and_le_l, or_add_and, or_zero_r}
use lib.Dec.{eqb}
use lib.ListN.{get_or}
use borrow.Author.Tests.{eqb-true, eqb-false, ne_eqb}
use Rattle.scanning.specs.Place.{is_nowhere}
use Rattle.scanning.specs.Along.{failing_along}
use Rattle.std.specs.Prelude.{Option}
use Rattle.scanning.proofs.FirstPlace.{scan_on, scan_here, scan_done}

module _ (test : ℕ → Bool) (line : List ℕ) where
  -- nothing was marked so far, and no place from i up to the end fails
  abbrev pub unmarked : (bad i end : ℕ) → Bool
  unmarked bad i end = eqb bad 0 && is_nowhere (failing_along test line i (end - i))

  -- at the end the marks alone decide
  pub no_more : (bad i end : ℕ) → end ≤ i → unmarked bad i end ≡ eqb bad 0
  no_more bad i end h = ap (λ (p : Option ℕ). eqb bad 0 && is_nowhere p) (scan_done test line i end h) ∙ and-true (eqb bad 0)

  -- one word more
  pub one_more : (bad i end m : ℕ) → i < end → eqb m 0 ≡ test (get_or line i 0) → unmarked (bit_or bad m) (i + 1) end ≡ unmarked bad i end
  one_more bad i end m h is = by_test (test (get_or line i 0)) refl is
    where
      by_test : (t : Bool) → test (get_or line i 0) ≡ t → eqb m 0 ≡ t → unmarked (bit_or bad m) (i + 1) end ≡ unmarked bad i end
      by_test true e none =
          ap₂ (λ (n : ℕ) (p : Option ℕ). eqb n 0 && is_nowhere p) (ap (bit_or bad) (eqb-true m 0 none) ∙ or_zero_r bad) (sym (scan_on test line i end h e))
      by_test false e some =
          ap (λ (t : Bool). t && is_nowhere (failing_along test line (i + 1) (end - (i + 1))))
          (ne_eqb (bit_or bad m) 0 (λ e. eqb-false m 0 some (omega (arith, e, or_add_and bad m, and_le_l bad m))))
          ∙ sym (ap (λ (p : Option ℕ). eqb bad 0 && is_nowhere p) (scan_here test line i end h e) ∙ and-false (eqb bad 0))
