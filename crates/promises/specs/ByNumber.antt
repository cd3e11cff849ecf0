-- "Numbers are also the order of checks" (document 01, "Turned away"), said of any call and with no walk through its checks: a call is turned
-- away by a row exactly where that row is given and no row that is checked before it is, and it says 0 exactly where none is given.
use Rattle.std.specs.Prelude.{◌≡◌, ◌⊎◌, List, [], ◌∷◌, ℕ, ◌%◌}

-- a row as it applies to a call: its number, and when it is given
pub data Row : Type 1 where
  row : (number : ℕ) (given : Type 0) → Row

-- the number due, of rows in the order of their checks: that of the first row that is given; 0 where none is
abbrev pub NumberDue : List Row → (number : ℕ) → Type 0
NumberDue [] due = due ≡ 0
NumberDue (row number given ∷ rows) due = (given × (due ≡ number)) ⊎ ((given → ⊥) × NumberDue rows due)

-- the C side's answers carry their number in the lowest eight bits
abbrev pub packed_number : ℕ → ℕ
packed_number r = r % 256
