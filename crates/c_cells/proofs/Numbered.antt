-- The twelve cells' call by its number: what a refusal and an acceptance leave, and which lengths give which number.
use mathlib.Core.Path.{◌≡◌, sym, ◌∙◌}
use mathlib.Core.List.{List}
use Prim.Native.Nat.{ℕ, suc, ◌≤◌, ◌<◌}
use native.Mathlib.Omega.{arith}
use lib.IntN.{ℤ}
use lib.Ieee.{Float}
use lib.ListN.{length}
use borrow.Author.Tests.{le-leb, lt-leb, eq-eqb, ne_eqb}
use Rattle.lines.proofs.LeftBy.{left_written, left_as_it_was}
use Rattle.cells.specs.declared.Cell.{Cell}
use Rattle.c_cells.specs.CellBytes.{microvolts_or, volts_or}
use Rattle.c_cells.specs.CellsBytes.{room_number, by_cell, packed_or, CellsGiven}

module _ (number : ℕ) (cells : List Cell) (m : List ℤ) (v : List Float) (a : List ℕ) where
  pub turned_away : (row : ℕ) → number ≡ suc row → CellsGiven number cells m m v v a a (suc row)
  turned_away row is =
      record {
        says = sym is;
        microvolts = sym (left_as_it_was (by_cell microvolts_or cells m) m number (omega arith));
        volts = sym (left_as_it_was (by_cell volts_or cells v) v number (omega arith));
        answers = sym (left_as_it_was (by_cell packed_or cells a) a number (omega arith));
      }

  pub all_given : (m' : List ℤ) (v' : List Float) (a' : List ℕ) → number ≡ 0 → m' ≡ by_cell microvolts_or cells m → v' ≡ by_cell volts_or cells v → a' ≡ by_cell packed_or cells a
      → CellsGiven number cells m m' v v' a a' 0
  all_given m' v' a' is whole single said =
      record {
        says = sym is;
        microvolts = whole ∙ sym (left_written (by_cell microvolts_or cells m) m number is);
        volts = single ∙ sym (left_written (by_cell volts_or cells v) v number is);
        answers = said ∙ sym (left_written (by_cell packed_or cells a) a number is);
      }

module _ (registers : List ℕ) (m : List ℤ) (v : List Float) (a : List ℕ) where
  pub short_microvolts : length m < 12 → room_number registers m v a ≡ 2
  unfolding room_number
  short_microvolts h = simp (lt-leb _ _ h)

  pub short_volts : 12 ≤ length m → length v < 12 → room_number registers m v a ≡ 2
  unfolding room_number
  short_volts i h = simp (le-leb _ _ i, lt-leb _ _ h)

  pub short_answers : 12 ≤ length m → 12 ≤ length v → length a < 12 → room_number registers m v a ≡ 2
  unfolding room_number
  short_answers i j h = simp (le-leb _ _ i, le-leb _ _ j, lt-leb _ _ h)

  pub other_length : 12 ≤ length m → 12 ≤ length v → 12 ≤ length a → (length registers ≡ 24 → ⊥) → room_number registers m v a ≡ 3
  unfolding room_number
  other_length i j k h = simp (le-leb _ _ i, le-leb _ _ j, le-leb _ _ k, ne_eqb _ _ h)

  pub room_and_length : 12 ≤ length m → 12 ≤ length v → 12 ≤ length a → length registers ≡ 24 → room_number registers m v a ≡ 0
  unfolding room_number
  room_and_length i j k h = simp (le-leb _ _ i, le-leb _ _ j, le-leb _ _ k, eq-eqb _ _ h)
