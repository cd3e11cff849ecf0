-- A cell for each register, each by its own: how many there are, and which stands where.
use mathlib.Core.Path.{◌≡◌, refl, ap, ◌∙◌}
use mathlib.Core.List.{List, [], ◌∷◌}
use Prim.Native.Nat.{ℕ, zero, suc, ◌+◌, ◌<◌}
use native.Mathlib.Nat.{le_of_suc-le-suc, not-suc-le-zero}
use native.Mathlib.Omega.{arith}
use lib.ListN.{length, get_or}
use Rattle.cells.specs.Cell.{cell_of, cells_from}
use Rattle.cells.specs.declared.Cell.{Cell}
use Rattle.cells.specs.declared.Range.{Range}
use Rattle.cells.specs.declared.Register.{Register}

-- a cell for each register
pub cells_number_lem : (range : Range) (mask c : ℕ) (registers : List Register) → length (cells_from range mask c registers) ≡ length registers
cells_number_lem range mask c [] = refl
cells_number_lem range mask c (register ∷ registers) = ap suc (cells_number_lem range mask (c + 1) registers)

-- and by it
pub cell_at : (range : Range) (mask c : ℕ) (registers : List Register) (k : ℕ) (none : Cell) (nothing : Register) → k < length registers
    → get_or (cells_from range mask c registers) k none ≡ cell_of range mask (c + k) (get_or registers k nothing).0
cell_at range mask c [] k none nothing h = absurd (not-suc-le-zero h)
cell_at range mask c (register ∷ registers) zero none nothing h =
    let same : c ≡ c + 0 = omega arith in ap (λ (x : ℕ). cell_of range mask x register.0) same
cell_at range mask c (register ∷ registers) (suc k) none nothing h =
    let same : c + 1 + k ≡ c + suc k = omega arith in
    cell_at range mask (c + 1) registers k none nothing (le_of_suc-le-suc h) ∙ ap (λ (x : ℕ). cell_of range mask x (get_or registers k nothing).0) same
