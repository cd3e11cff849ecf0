-- The twelve cells of one measurement for the C side (document 01, "Cells", "The C side" and "Turned away").
use Rattle.std.specs.Prelude.{◌≡◌, cond, ◌&&◌, List, [], ◌∷◌, map, ℕ, eqb, leb, ℤ, Float, length}
use Rattle.lines.specs.Write.{left_by}
use Rattle.packing.specs.Words.{words_of}
use Rattle.cells.specs.Cell.{cells_of}
use Rattle.cells.specs.declared.Cell.{Cell}
use Rattle.cells.specs.declared.Range.{Range}
use Rattle.cells.specs.declared.Register.{Register}
use Rattle.c_cells.specs.CellBytes.{packed_cell, microvolts_or, volts_or, by_range}

-- the registers of some bytes, two bytes each, low first
abbrev pub register : ℕ → Register
register word = record { 0 = word }

unfoldable pub registers_of : (bytes : List ℕ) → List Register
registers_of bytes = map register (words_of bytes)

-- ROOM, number 2, where an output is shorter than twelve; LENGTH, number 3, where the registers are not exactly 24 bytes
unfoldable pub room_number : (registers : List ℕ) → (microvolts : List ℤ) → (volts : List Float) → (answers : List ℕ) → ℕ
room_number registers microvolts volts answers =
    cond (leb 12 (length microvolts) && leb 12 (length volts) && leb 12 (length answers)) (cond (eqb (length registers) 24) 0 3) 2

-- the number of the whole call: QUESTION, number 1, where no range is named, and before the other two
unfoldable pub cells_number : (bipolar : ℕ) → (registers : List ℕ) → (microvolts : List ℤ) → (volts : List Float) → (answers : List ℕ) → ℕ
cells_number bipolar registers microvolts volts answers = by_range bipolar (λ (range : Range). room_number registers microvolts volts answers) 1

-- the twelve cells, by the range that is named
unfoldable pub cells_read : (enabled bipolar : ℕ) → (registers : List ℕ) → List Cell
cells_read enabled bipolar registers = by_range bipolar (λ (range : Range). cells_of range enabled (registers_of registers)) []

-- lent memory, each place by its own cell; what no cell has a place for stays
abbrev pub by_cell : {A : Type 0} → (after : Cell → A → A) → List Cell → List A → List A
by_cell after [] before = before
by_cell after (cell ∷ cells) [] = []
by_cell after (cell ∷ cells) (b ∷ before) = after cell b ∷ by_cell after cells before

-- a lent answer after the call: the cell's packed one, whatever stood there
abbrev pub packed_or : Cell → (before : ℕ) → ℕ
packed_or cell before = packed_cell cell

-- what a call of this number says of these cells, and leaves in the three lent memories
pub record CellsGiven (number : ℕ) (cells : List Cell) (microvolts_before microvolts_after : List ℤ) (volts_before volts_after : List Float)
    (answers_before answers_after : List ℕ) (r : ℕ) : Type 0 where
  pub says : r ≡ number
  pub microvolts : microvolts_after ≡ left_by number (by_cell microvolts_or cells microvolts_before) microvolts_before
  pub volts : volts_after ≡ left_by number (by_cell volts_or cells volts_before) volts_before
  pub answers : answers_after ≡ left_by number (by_cell packed_or cells answers_before) answers_before

-- what `cells_into` says and leaves
abbrev pub CellsDone : (enabled bipolar : ℕ) → (registers : List ℕ) → (microvolts_before microvolts_after : List ℤ) → (volts_before volts_after : List Float)
    → (answers_before answers_after : List ℕ) → (r : ℕ) → Type 0
CellsDone enabled bipolar registers microvolts_before microvolts_after volts_before volts_after answers_before answers_after r =
    CellsGiven (cells_number bipolar registers microvolts_before volts_before answers_before) (cells_read enabled bipolar registers)
    microvolts_before microvolts_after volts_before volts_after answers_before answers_after r
