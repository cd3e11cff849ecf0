-- Each of C's twelve cells for itself: it is answered as C's call of one cell answers it, and so by that call's rows, of which QUESTION is not
-- given where the twelve are accepted.
use mathlib.Core.Path.{◌≡◌, refl, sym, subst, ◌∙◌}
use mathlib.Core.Bool.{Bool, true, false, cond, ◌&&◌, false≢true}
use mathlib.Core.Logic.{inl, inr, ⊎_elim}
use mathlib.Core.List.{List, ◌∷◌}
use Prim.Native.Nat.{ℕ, suc, ◌/◌, ◌%◌, ◌≤◌, ◌<◌}
use native.Mathlib.Omega.{arith}
use lib.Dec.{eqb, leb, lit<}
use lib.IntN.{ℤ}
use lib.Ieee.{Float}
use lib.ListN.{get_or}
use Rattle.packing.specs.Words.{word_at}
use Rattle.cells.specs.Cell.{enabled, cell_of}
use Rattle.cells.specs.declared.Cell.{Cell}
use Rattle.cells.specs.declared.Cell.TheVariants as cell
use Rattle.cells.specs.Voltage.{voltage_of}
use Rattle.cells.specs.declared.Range.{Range}
use Rattle.cells.specs.declared.Range.TheVariants.{Unipolar, Bipolar}
use Rattle.cells.specs.declared.CellRefusal.TheVariants as cell_refusal
use Rattle.c_cells.specs.CellBytes.{microvolts_or, volts_or, microvolts_left, volts_left, CellDone}
use Rattle.c_cells.specs.CellsBytes.{cells_number, CellsDone}
use Rattle.c_cells.proofs.EachCell.{own_done}
use Rattle.promises.specs.ByNumber.{row, NumberDue, packed_number}
use Rattle.promises.specs.CallRows.{cell_rows}
use Rattle.promises.specs.Demand1.{OwnCell}
use Rattle.promises.proofs.ByNumber.{below_256}
use Rattle.promises.proofs.CallsByNumber.{cell_into_due, cells_rows, cells_into_due}
use Rattle.promises.proofs.RefusedBytes.{refused_cell}

-- a cell that is not enabled leaves the two lent numbers as they were
off_stays : (c mask register bipolar : ℕ) (m m' : ℤ) (v v' : Float) (r : ℕ) → CellDone c mask register bipolar m m' v v' r
    → enabled mask c ≡ false → (m' ≡ m) × (v' ≡ v)
unfolding microvolts_left volts_left cell_of
off_stays c mask register bipolar m m' v v' r done off =
    let by = by_range (eqb bipolar 0) (eqb bipolar 1) in (done.microvolts ∙ by.0, done.volts ∙ by.1)
  where
    of : Range → Cell
    of range = cell_of range mask c register

    by_tests : (range : Range) (inside on : Bool) → on ≡ false
        → let read = cond (eqb (register % 4) 0) (cell.Measured (voltage_of range (register / 4))) (cell.Refused cell_refusal.LowBits) in
        let x = cond inside (cond on read cell.NotMeasured) (cell.Refused cell_refusal.Channel) in (microvolts_or x m ≡ m) × (volts_or x v ≡ v)
    by_tests range false on e = (refl, refl)
    by_tests range true false e = (refl, refl)
    by_tests range true true e = absurd (false≢true (sym e))

    by_range : (uni bi : Bool)
        → (cond uni (microvolts_or (of Unipolar) m) (cond bi (microvolts_or (of Bipolar) m) m) ≡ m)
        × (cond uni (volts_or (of Unipolar) v) (cond bi (volts_or (of Bipolar) v) v) ≡ v)
    by_range true bi = by_tests Unipolar (leb 1 c && leb c 12) (enabled mask c) off
    by_range false true = by_tests Bipolar (leb 1 c && leb c 12) (enabled mask c) off
    by_range false false = (refl, refl)

module _ (mask bipolar : ℕ) (registers : List ℕ) (m m' : List ℤ) (v v' : List Float) (a a' : List ℕ) (r : ℕ)
    (done : CellsDone mask bipolar registers m m' v v' a a' r) (accepted : packed_number r ≡ 0) (k : ℕ) (below : k < 12) where
  due : NumberDue (cells_rows bipolar registers m v a) (cells_number bipolar registers m v a)
  due = cells_into_due bipolar registers m v a

  no_row : cells_number bipolar registers m v a ≡ 0
  no_row =
      let small = below_256 (cells_rows bipolar registers m v a) (cells_number bipolar registers m v a)
      (lit< tt, (lit< tt, (lit< tt, tt))) due in omega (arith, done.says, accepted, small)

  -- a range is named
  named : 2 ≤ bipolar → ⊥
  named = by_due due
    where
      by_due : NumberDue (cells_rows bipolar registers m v a) (cells_number bipolar registers m v a) → 2 ≤ bipolar → ⊥
      by_due (inl question) many = omega (arith, question.1, no_row)
      by_due (inr later) many = later.0 many

  -- so that of C's rows of one cell those of the cell are left
  of_the_cell : (number : ℕ) → NumberDue (row 1 (2 ≤ bipolar) ∷ cell_rows mask (suc k) (word_at registers k)) number → NumberDue (cell_rows mask (suc k) (word_at registers k)) number
  of_the_cell number (inl question) = absurd (named question.0)
  of_the_cell number (inr own) = own.1

  alone : (none : ℤ) (nothing : Float)
      → CellDone (suc k) mask (word_at registers k) bipolar (get_or m k none) (get_or m' k none) (get_or v k nothing) (get_or v' k nothing) (get_or a' k 0)
  alone none nothing = own_done mask registers m m' v v' a a' k below none nothing bipolar r done no_row

  pub own_cell : OwnCell mask bipolar registers m m' v v' a' k
  own_cell = record {
    by_number =
        let some = voltage_of Unipolar 0 in
        subst (λ (answer : ℕ). NumberDue (cell_rows mask (suc k) (word_at registers k)) (packed_number answer))
        (sym (alone some.microvolts some.volts).says) (of_the_cell _ (cell_into_due (suc k) mask (word_at registers k) bipolar));
    stays = λ still none nothing.
        ⊎_elim (refused_cell (suc k) mask (word_at registers k) bipolar _ _ _ _ (get_or a' k 0) (alone none nothing))
        (off_stays (suc k) mask (word_at registers k) bipolar _ _ _ _ (get_or a' k 0) (alone none nothing)) still;
    alone = alone;
  }
