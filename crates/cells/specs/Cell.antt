-- One cell (document 01, "Cells"): CHANNEL comes first, then "not measured", then LOW BITS.
use Rattle.std.specs.Prelude.{Bool, false, cond, ◌&&◌, ℕ, zero, suc, ◌+◌, ◌/◌, ◌%◌, ◌^◌, List, [], ◌∷◌, eqb, leb}
use Rattle.cells.specs.Voltage.{voltage_of}
use Rattle.cells.specs.declared.Register.{Register}
use Rattle.cells.specs.declared.Range.{Range}
use Rattle.cells.specs.declared.Cell.{Cell}
use Rattle.cells.specs.declared.Cell.TheVariants.{Measured, NotMeasured, Refused}
use Rattle.cells.specs.declared.CellRefusal.{CellRefusal}
use Rattle.cells.specs.declared.CellRefusal.TheVariants.{Channel, LowBits}

-- mask bit b stands for cell b + 1; there is no cell 0
abbrev pub enabled : (mask c : ℕ) → Bool
enabled mask zero = false
enabled mask (suc b) = eqb (mask / 2 ^ b % 2) 1

-- The measurement is the register divided by 4; either low bit set is LOW BITS.
unfoldable pub cell_of : Range → (mask c register : ℕ) → Cell
cell_of range mask c register =
    cond (leb 1 c && leb c 12)
    (cond (enabled mask c)
    (cond (eqb (register % 4) 0) (Measured (voltage_of range (register / 4))) (Refused LowBits))
    NotMeasured)
    (Refused Channel)

-- A cell for each register, the first register being cell 1's.
abbrev pub cells_from : Range → (mask c : ℕ) → List Register → List Cell
cells_from range mask c [] = []
cells_from range mask c (register ∷ registers) = cell_of range mask c register.0 ∷ cells_from range mask (c + 1) registers

unfoldable pub cells_of : Range → (mask : ℕ) → List Register → List Cell
cells_of range mask registers = cells_from range mask 1 registers

-- The paper's numbers ("Turned away"), 0 where nothing is turned away.
abbrev pub cell_refusal_number : CellRefusal → ℕ
cell_refusal_number Channel = 12
cell_refusal_number LowBits = 13

abbrev pub cell_number : Cell → ℕ
cell_number (Measured v) = 0
cell_number NotMeasured = 0
cell_number (Refused why) = cell_refusal_number why
