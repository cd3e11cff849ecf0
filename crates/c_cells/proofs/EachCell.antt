-- Each of the twelve cells for itself: what an accepted call of twelve has done for a cell is what `cell_into` does for that cell alone, by the
-- cell's own register and in its own place of the lent memory.
use mathlib.Core.Path.{◌≡◌, refl, sym, ap, ap₂, subst, ◌∙◌}
use mathlib.Core.Bool.{Bool, true, false}
use mathlib.Core.Logic.{⊎_elim}
use mathlib.Core.List.{List, [], ◌∷◌, map}
use Prim.Native.Nat.{ℕ, zero, suc, ◌+◌, ◌≤◌, ◌<◌}
use native.Mathlib.Nat.{le_of_suc-le-suc, not-suc-le-zero}
use native.Mathlib.Omega.{arith}
use lib.Dec.{eqb}
use lib.IntN.{ℤ}
use lib.Ieee.{Float}
use lib.ListN.{length, get_or}
use borrow.Author.Tests.{eqb-true, eqb-false}
use Rattle.ground.proofs.Test.{below_or_not}
use Rattle.lines.specs.Write.{left_by}
use Rattle.lines.proofs.LeftBy.{left_written}
use Rattle.packing.specs.Words.{words_of, word_at}
use Rattle.packing.proofs.Back.{length_words, word_of}
use Rattle.cells.specs.Cell.{cell_of, cells_from, cells_of}
use Rattle.cells.specs.declared.Cell.{Cell}
use Rattle.cells.specs.declared.Cell.TheVariants.{NotMeasured}
use Rattle.cells.specs.Voltage.{range_number}
use Rattle.cells.specs.declared.Range.{Range}
use Rattle.cells.specs.declared.Range.TheVariants.{Unipolar, Bipolar}
use Rattle.cells.specs.declared.Register.{Register}
use Rattle.cells.proofs.EachRegister.{cells_number_lem, cell_at}
use Rattle.c_cells.specs.CellBytes.{microvolts_or, volts_or, CellGiven, CellDone}
use Rattle.c_cells.specs.CellsBytes.{register, registers_of, room_number, cells_number, cells_read, by_cell, packed_or, CellsGiven, CellsDone}
use Rattle.c_cells.proofs.Named.{is_named, is_neither, named_done}
use Rattle.c_cells.proofs.Numbered.{short_microvolts, short_volts, short_answers, other_length}

-- ---- the k-th of a list

pub registers_number : (words : List ℕ) → length (map register words) ≡ length words
registers_number [] = refl
registers_number (w ∷ words) = ap suc (registers_number words)

pub register_at : (words : List ℕ) (k : ℕ) (nothing : Register) → k < length words → (get_or (map register words) k nothing).0 ≡ get_or words k 0
register_at [] k nothing h = absurd (not-suc-le-zero h)
register_at (w ∷ words) zero nothing h = refl
register_at (w ∷ words) (suc k) nothing h = register_at words k nothing (le_of_suc-le-suc h)

in_its_place : {A : Type 0} (after : Cell → A → A) (cells : List Cell) (before : List A) (k : ℕ) (none : Cell) (nothing : A)
    → k < length cells → k < length before → get_or (by_cell after cells before) k nothing ≡ after (get_or cells k none) (get_or before k nothing)
in_its_place after [] before k none nothing h i = absurd (not-suc-le-zero h)
in_its_place after (cell ∷ cells) [] k none nothing h i = absurd (not-suc-le-zero i)
in_its_place after (cell ∷ cells) (b ∷ before) zero none nothing h i = refl
in_its_place after (cell ∷ cells) (b ∷ before) (suc k) none nothing h i =
    in_its_place after cells before k none nothing (le_of_suc-le-suc h) (le_of_suc-le-suc i)

-- ---- what number 0 says of the lengths

record Lent (registers : List ℕ) (m : List ℤ) (v : List Float) (a : List ℕ) : Type 0 where
  microvolts : 12 ≤ length m
  volts : 12 ≤ length v
  answers : 12 ≤ length a
  bytes : length registers ≡ 24

module _ (registers : List ℕ) (m : List ℤ) (v : List Float) (a : List ℕ) (none : room_number registers m v a ≡ 0) where
  lent : Lent registers m v a
  lent =
      let whole = room (length m) (short_microvolts registers m v a) in
      let single = room (length v) (short_volts registers m v a whole) in
      let said = room (length a) (short_answers registers m v a whole single) in
      record { microvolts = whole; volts = single; answers = said; bytes = by_test whole single said (eqb (length registers) 24) refl }
    where
      room : (lent : ℕ) → (lent < 12 → room_number registers m v a ≡ 2) → 12 ≤ lent
      room lent short = ⊎_elim (λ less. absurd (omega (arith, none, short less))) (λ enough. enough) (below_or_not lent 12)

      by_test : 12 ≤ length m → 12 ≤ length v → 12 ≤ length a → (all : Bool) → eqb (length registers) 24 ≡ all → length registers ≡ 24
      by_test whole single said true e = eqb-true (length registers) 24 e
      by_test whole single said false e =
          absurd (omega (arith, none, other_length registers m v a whole single said (eqb-false (length registers) 24 e)))

-- ---- each cell

module _ (enabled : ℕ) (registers : List ℕ) (m m' : List ℤ) (v v' : List Float) (a a' : List ℕ) (k : ℕ) (below : k < 12) (nothing : ℤ) (no_volts : Float) where
  -- by the range that is named
  own_given : (range : Range) (number r : ℕ) → number ≡ 0 → Lent registers m v a
      → CellsGiven number (cells_of range enabled (registers_of registers)) m m' v v' a a' r
      → CellGiven (cell_of range enabled (suc k) (word_at registers k)) (get_or m k nothing) (get_or m' k nothing) (get_or v k no_volts) (get_or v' k no_volts) (get_or a' k 0)
  unfolding cells_of registers_of
  own_given range number r accepted enough given =
      record {
        says = place packed_or a a' 0 (omega (arith, enough.answers)) given.answers;
        microvolts = place microvolts_or m m' nothing (omega (arith, enough.microvolts)) given.microvolts;
        volts = place volts_or v v' no_volts (omega (arith, enough.volts)) given.volts;
      }
    where
      cells : List Cell
      cells = cells_from range enabled 1 (map register (words_of registers))

      bytes : length registers ≡ 24
      bytes = enough.bytes

      own : get_or cells k NotMeasured ≡ cell_of range enabled (suc k) (word_at registers k)
      own =
          let one : 1 + k ≡ suc k = omega arith in
          let words = length_words registers in
          cell_at range enabled 1 (map register (words_of registers)) k NotMeasured (register 0) (omega (arith, below, bytes, words, registers_number (words_of registers)))
          ∙ ap₂ (cell_of range enabled) one
          (register_at (words_of registers) k (register 0) (omega (arith, below, bytes, words)) ∙ word_of registers k (omega (arith, below, bytes)))

      place : {A : Type 0} (after : Cell → A → A) (before left : List A) (none : A) → k < length before → left ≡ left_by number (by_cell after cells before) before
          → get_or left k none ≡ after (cell_of range enabled (suc k) (word_at registers k)) (get_or before k none)
      place after before left none there is =
          let many = cells_number_lem range enabled 1 (map register (words_of registers)) in
          ap (λ l. get_or l k none) (is ∙ left_written (by_cell after cells before) before number accepted)
          ∙ in_its_place after cells before k NotMeasured none (omega (arith, below, bytes, many, length_words registers, registers_number (words_of registers))) there
          ∙ ap (λ (c : Cell). after c (get_or before k none)) own

  -- AN ACCEPTED CALL OF TWELVE DOES FOR EACH CELL WHAT `cell_into` DOES
  pub own_done : (bipolar r : ℕ) → CellsDone enabled bipolar registers m m' v v' a a' r → cells_number bipolar registers m v a ≡ 0
      → CellDone (suc k) enabled (word_at registers k) bipolar (get_or m k nothing) (get_or m' k nothing) (get_or v k no_volts) (get_or v' k no_volts) (get_or a' k 0)
  unfolding cells_number cells_read
  own_done bipolar r done accepted = by_tests (eqb bipolar 0) refl (eqb bipolar 1) refl
    where
      of : (range : Range) → range_number range ≡ bipolar
          → CellDone (suc k) enabled (word_at registers k) bipolar (get_or m k nothing) (get_or m' k nothing) (get_or v k no_volts) (get_or v' k no_volts) (get_or a' k 0)
      of range is =
          named_done (suc k) enabled (word_at registers k) bipolar _ _ _ _ _ range _ is refl
          (own_given range (cells_number bipolar registers m v a) r accepted
          (lent registers m v a (sym (is_named bipolar (λ (range : Range). room_number registers m v a) 1 range is) ∙ accepted))
          (subst (λ (cells : List Cell). CellsGiven (cells_number bipolar registers m v a) cells m m' v v' a a' r)
          (is_named bipolar (λ (range : Range). cells_of range enabled (registers_of registers)) [] range is) done))

      by_tests : (uni : Bool) → eqb bipolar 0 ≡ uni → (bi : Bool) → eqb bipolar 1 ≡ bi
          → CellDone (suc k) enabled (word_at registers k) bipolar (get_or m k nothing) (get_or m' k nothing) (get_or v k no_volts) (get_or v' k no_volts) (get_or a' k 0)
      by_tests true u bi b = of Unipolar (sym (eqb-true bipolar 0 u))
      by_tests false u true b = of Bipolar (sym (eqb-true bipolar 1 b))
      by_tests false u false b =
          absurd (omega (arith, accepted, is_neither bipolar (λ (range : Range). room_number registers m v a) 1 (eqb-false bipolar 0 u) (eqb-false bipolar 1 b)))
