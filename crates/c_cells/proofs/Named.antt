-- The whole answer by the range that is named, or where none is, from what a cell's answer, or the twelve cells' answers, give.
use mathlib.Core.Path.{◌≡◌, sym, ap, ap₂, subst, ◌∙◌}
use mathlib.Core.Bool.{Bool, cond}
use mathlib.Core.List.{List, []}
use Prim.Native.Nat.{ℕ, ◌<◌}
use native.Mathlib.Omega.{arith}
use lib.Dec.{eqb}
use lib.IntN.{ℤ}
use lib.Ieee.{Float}
use borrow.Author.Tests.{eq-eqb, ne_eqb}
use Rattle.cells.specs.Cell.{cell_of, cells_of}
use Rattle.cells.specs.declared.Cell.{Cell}
use Rattle.cells.specs.Voltage.{range_number}
use Rattle.cells.specs.declared.Range.{Range}
use Rattle.cells.specs.declared.Range.TheVariants.{Unipolar, Bipolar}
use Rattle.c_cells.specs.CellBytes.{packed_cell, microvolts_or, volts_or, CellGiven, by_range, answer_of, microvolts_left, volts_left, CellDone}
use Rattle.c_cells.specs.CellsBytes.{registers_of, room_number, cells_number, cells_read, CellsGiven, CellsDone}
use Rattle.c_cells.proofs.Numbered.{turned_away}

module _ {A : Type 0} (bipolar : ℕ) (named : Range → A) (none : A) where
  pub is_unipolar : bipolar ≡ 0 → by_range bipolar named none ≡ named Unipolar
  is_unipolar e = ap (λ (t : Bool). cond t (named Unipolar) (cond (eqb bipolar 1) (named Bipolar) none)) (eq-eqb bipolar 0 e)

  pub is_bipolar : bipolar ≡ 1 → by_range bipolar named none ≡ named Bipolar
  is_bipolar e = ap (λ (k : ℕ). by_range k named none) e

  pub is_named : (range : Range) → range_number range ≡ bipolar → by_range bipolar named none ≡ named range
  is_named Unipolar e = is_unipolar (sym e)
  is_named Bipolar e = is_bipolar (sym e)

  pub is_neither : (bipolar ≡ 0 → ⊥) → (bipolar ≡ 1 → ⊥) → by_range bipolar named none ≡ none
  is_neither e f =
      ap₂ (λ (t u : Bool). cond t (named Unipolar) (cond u (named Bipolar) none)) (ne_eqb bipolar 0 e) (ne_eqb bipolar 1 f)

  pub is_none : 1 < bipolar → by_range bipolar named none ≡ none
  is_none more = is_neither (λ e. omega (arith, more, e)) (λ e. omega (arith, more, e))

-- a range is named: what the cell gives is the whole answer
pub named_done : (cell enabled register bipolar : ℕ) (m m' : ℤ) (v v' : Float) (r : ℕ) (range : Range) (answer : Cell) → range_number range ≡ bipolar
    → answer ≡ cell_of range enabled cell register → CellGiven answer m m' v v' r → CellDone cell enabled register bipolar m m' v v' r
unfolding answer_of microvolts_left volts_left
named_done cell enabled register bipolar m m' v v' r range answer is e given =
    record {
      says = given.says ∙ ap packed_cell e ∙ sym (is_named bipolar (λ (range : Range). packed_cell (cell_of range enabled cell register)) 1 range is);
      microvolts =
          given.microvolts ∙ ap (λ (c : Cell). microvolts_or c m) e
          ∙ sym (is_named bipolar (λ (range : Range). microvolts_or (cell_of range enabled cell register) m) m range is);
      volts =
          given.volts ∙ ap (λ (c : Cell). volts_or c v) e
          ∙ sym (is_named bipolar (λ (range : Range). volts_or (cell_of range enabled cell register) v) v range is);
    }

-- no range is named: QUESTION, and the lent numbers stay
pub none_done : (cell enabled register bipolar : ℕ) (m : ℤ) (v : Float) → 1 < bipolar → CellDone cell enabled register bipolar m m v v 1
unfolding answer_of microvolts_left volts_left
none_done cell enabled register bipolar m v more =
    record {
      says = sym (is_none bipolar (λ (range : Range). packed_cell (cell_of range enabled cell register)) 1 more);
      microvolts = sym (is_none bipolar (λ (range : Range). microvolts_or (cell_of range enabled cell register) m) m more);
      volts = sym (is_none bipolar (λ (range : Range). volts_or (cell_of range enabled cell register) v) v more);
    }

-- a range is named: what the twelve cells give is the whole answer
pub named_cells : (enabled bipolar : ℕ) (registers : List ℕ) (m m' : List ℤ) (v v' : List Float) (a a' : List ℕ) (r : ℕ) (range : Range) → range_number range ≡ bipolar
    → CellsGiven (room_number registers m v a) (cells_of range enabled (registers_of registers)) m m' v v' a a' r
    → CellsDone enabled bipolar registers m m' v v' a a' r
unfolding cells_number cells_read
named_cells enabled bipolar registers m m' v v' a a' r range is given =
    subst (λ (cells : List Cell). CellsGiven (cells_number bipolar registers m v a) cells m m' v v' a a' r)
    (sym (is_named bipolar (λ (range : Range). cells_of range enabled (registers_of registers)) [] range is))
    (subst (λ (number : ℕ). CellsGiven number (cells_of range enabled (registers_of registers)) m m' v v' a a' r)
    (sym (is_named bipolar (λ (range : Range). room_number registers m v a) 1 range is)) given)

pub none_cells : (enabled bipolar : ℕ) (registers : List ℕ) (m : List ℤ) (v : List Float) (a : List ℕ) → 1 < bipolar
    → CellsDone enabled bipolar registers m m v v a a 1
unfolding cells_number
none_cells enabled bipolar registers m v a more =
    turned_away (cells_number bipolar registers m v a) (cells_read enabled bipolar registers) m v a 0
    (is_none bipolar (λ (range : Range). room_number registers m v a) 1 more)
