-- A cell's answer for the C side (document 01, "Cells" and "The C side").
use Rattle.std.specs.Prelude.{◌≡◌, cond, ℕ, eqb, ℤ, Float}
use Rattle.cells.specs.Cell.{cell_of, cell_refusal_number}
use Rattle.cells.specs.declared.Range.{Range}
use Rattle.cells.specs.declared.Range.TheVariants.{Unipolar, Bipolar}
use Rattle.cells.specs.declared.Cell.{Cell}
use Rattle.cells.specs.declared.Cell.TheVariants.{Measured, NotMeasured, Refused}

-- bits 0 to 7 the number, bits 8 to 15 1 where the cell was measured
abbrev pub packed_cell : Cell → ℕ
packed_cell (Measured v) = 256
packed_cell NotMeasured = 0
packed_cell (Refused why) = cell_refusal_number why

-- the lent microvolts after the call: the voltage where it was measured, else as they were
abbrev pub microvolts_or : Cell → (before : ℤ) → ℤ
microvolts_or (Measured v) before = v.microvolts
microvolts_or NotMeasured before = before
microvolts_or (Refused why) before = before

-- the lent volts after the call, in the same way
abbrev pub volts_or : Cell → (before : Float) → Float
volts_or (Measured v) before = v.volts
volts_or NotMeasured before = before
volts_or (Refused why) before = before

-- what `give` says of a cell and leaves in the two lent numbers
pub record CellGiven (answer : Cell) (microvolts_before microvolts_after : ℤ) (volts_before volts_after : Float) (r : ℕ) : Type 0 where
  pub says : r ≡ packed_cell answer
  pub microvolts : microvolts_after ≡ microvolts_or answer microvolts_before
  pub volts : volts_after ≡ volts_or answer volts_before

-- by the range that is named: 0 is unipolar, 1 is bipolar, and any other number names none
abbrev pub by_range : {A : Type 0} → (bipolar : ℕ) → (named : Range → A) → (none : A) → A
by_range bipolar named none = cond (eqb bipolar 0) (named Unipolar) (cond (eqb bipolar 1) (named Bipolar) none)

-- the answer to the whole call: the cell's, packed; QUESTION, number 1, where no range is named
unfoldable pub answer_of : (cell enabled register bipolar : ℕ) → ℕ
answer_of cell enabled register bipolar = by_range bipolar (λ (range : Range). packed_cell (cell_of range enabled cell register)) 1

-- the lent microvolts after the whole call: the cell's where it was measured; as they were where it was not, and where no range is named
unfoldable pub microvolts_left : (cell enabled register bipolar : ℕ) → (before : ℤ) → ℤ
microvolts_left cell enabled register bipolar before =
    by_range bipolar (λ (range : Range). microvolts_or (cell_of range enabled cell register) before) before

-- the lent volts after the whole call, in the same way
unfoldable pub volts_left : (cell enabled register bipolar : ℕ) → (before : Float) → Float
volts_left cell enabled register bipolar before =
    by_range bipolar (λ (range : Range). volts_or (cell_of range enabled cell register) before) before

-- what `cell_into` says and leaves in the two lent numbers
pub record CellDone (cell enabled register bipolar : ℕ) (microvolts_before microvolts_after : ℤ) (volts_before volts_after : Float) (r : ℕ) : Type 0 where
  pub says : r ≡ answer_of cell enabled register bipolar
  pub microvolts : microvolts_after ≡ microvolts_left cell enabled register bipolar microvolts_before
  pub volts : volts_after ≡ volts_left cell enabled register bipolar volts_before
