-- Bounds of what the rows say: a place lies on a line of 140 words at most, and room for 32 values is room enough.
use mathlib.Core.Path.{◌≡◌, refl, sym, ◌∙◌}
use mathlib.Core.Bool.{Bool, true, false}
use mathlib.Core.List.{List}
use Prim.Native.Nat.{ℕ, ◌-◌, ◌≤◌, min}
use native.Mathlib.Nat.{le_refl}
use native.Mathlib.Omega.{arith}
use lib.Dec.{eqb, leb}
use lib.ListN.{length}
use borrow.Author.Tests.{leb-true, le-leb, leb-false, lt-leb, eqb-true}
use Rattle.std.specs.Prelude.{Ok, Option, Some, None}
use Rattle.lines.specs.Line.{bytes_of}
use Rattle.scanning.specs.Place.{first_no_character, first_no_nibble}
use Rattle.scanning.specs.Frame.{framed}
use Rattle.scanning.proofs.FirstPlace.{at_first, characters_along, nibbles_along}
use Rattle.questions.specs.Question.{good_question}
use Rattle.questions.specs.Shape.{shape_of}
use Rattle.questions.specs.declared.question.Question as asked
use Rattle.questions.proofs.Good.{good_values, words_most}
use Rattle.readings.specs.Reading.{refusal_place, place_of}
use Rattle.readings.specs.FirstFault.{Said, given_unless, said}
use Rattle.readings.specs.declared.Refusal.{Refusal}
use Rattle.readings.specs.declared.Refusal.TheVariants.{Question, Room, Length, Character, Frame, Manchester, Echo, Pec, Alive, Check, Count}
use Rattle.readings.proofs.FirstFault.{first_of_each}
use Rattle.readings.proofs.FirstFault.Each.{none, next}
use Rattle.contents.specs.Rows.{byte_in, echoed, pec_right, alive_right, check_byte, count_right, taken_of}
use Rattle.contents.specs.InOrder.{byte_rows}
use Rattle.contents.proofs.RowLaws.{taken_zero}
use Rattle.judging.specs.Judge.{given_at, screen_rows, rows_of, judge_of}

-- ---- a place lies on the line

character_place : (line : List ℕ) (i : ℕ) → first_no_character line ≡ Some i → i ≤ length line
character_place line i e = omega (arith, (at_first _ line 0 (length line) i (sym (characters_along line) ∙ e)).below)

nibble_place : (line : List ℕ) (i : ℕ) → first_no_nibble line ≡ Some i → i ≤ length line
nibble_place line i e = omega (arith, (at_first _ line 1 (length line - 2) i (sym (nibbles_along line) ∙ e)).below)

place_within : (q : asked.Question) (line : List ℕ) (room : ℕ) → place_of (judge_of q line room) ≤ length line
unfolding judge_of rows_of screen_rows byte_rows
place_within q line room =
    first_of_each Within pass (rows_of q line room)
    (next (unless Question (good_question q) refl)
    (next (unless Room (leb (shape_of q).values room) refl)
    (next (unless Length (eqb (length line) (shape_of q).words) refl)
    (next (at Character (first_no_character line) (character_place line))
    (next (unless Frame (framed line) refl)
    (next (at Manchester (first_no_nibble line) (nibble_place line))
    (next (unless Echo (echoed q bytes) refl)
    (next (unless Pec (pec_right q bytes) refl)
    (next (unless Alive (alive_right q bytes) refl)
    (next (unless (Check (check_byte q bytes)) (eqb (check_byte q bytes) 0) refl)
    (next (unless (Count (byte_in bytes 2)) (count_right q bytes) refl)
    none)))))))))))
  where
    bytes : List ℕ
    bytes = bytes_of line

    Within : Said → Type 0
    Within s = place_of (said s (taken_of q (bytes_of line))) ≤ length line

    pass : Within (Ok tt)
    pass = omega (arith, taken_zero q (bytes_of line) place_of (λ n. refl) refl (λ m. refl))

    unless : (why : Refusal) (t : Bool) → refusal_place why ≡ 0 → Within (given_unless why t)
    unless why true e = pass
    unless why false e = omega arith

    at : (why : ℕ → Refusal) (p : Option ℕ) → ((i : ℕ) → p ≡ Some i → refusal_place (why i) ≤ length line) → Within (given_at why p)
    at why (Some i) row = row i refl
    at why None row = pass

-- and LENGTH comes first, so that it lies on a line of 140 words at most, whatever line was lent
pub place_most : (q : asked.Question) (line : List ℕ) (room : ℕ) → place_of (judge_of q line room) ≤ 140
unfolding judge_of rows_of screen_rows
place_most q line room =
    by_tests (good_question q) (leb (shape_of q).values room) (eqb (length line) (shape_of q).words) refl refl refl
  where
    placeless : place_of (judge_of q line room) ≡ 0 → place_of (judge_of q line room) ≤ 140
    placeless e = omega arith

    by_tests : (t u v : Bool) → good_question q ≡ t → leb (shape_of q).values room ≡ u → eqb (length line) (shape_of q).words ≡ v
        → place_of (judge_of q line room) ≤ 140
    by_tests false u v bad space long = placeless (simp bad)
    by_tests true false v good short long = placeless (simp (good, short))
    by_tests true true false good enough other = placeless (simp (good, enough, other))
    by_tests true true true good enough same =
        omega (arith, place_within q line room, eqb-true (length line) (shape_of q).words same, words_most q good)

-- ---- room

-- of a good question all that counts is whether the values have room, and of another not even that
same_room : (q : asked.Question) (line : List ℕ) (room other : ℕ)
    → (good_question q ≡ true → leb (shape_of q).values room ≡ leb (shape_of q).values other) → judge_of q line room ≡ judge_of q line other
unfolding judge_of rows_of screen_rows
same_room q line room other same = by_test (good_question q) refl
  where
    by_test : (t : Bool) → good_question q ≡ t → judge_of q line room ≡ judge_of q line other
    by_test true good = let alike = same good in simp (good, alike)
    by_test false bad = simp bad

-- no answer has more than 32 values
pub room_enough : (q : asked.Question) (line : List ℕ) (room : ℕ) → judge_of q line (min room 32) ≡ judge_of q line room
room_enough q line room =
    same_room q line (min room 32) room (λ good. by_room good (leb (shape_of q).values room) refl)
  where
    by_room : good_question q ≡ true → (t : Bool) → leb (shape_of q).values room ≡ t → leb (shape_of q).values (min room 32) ≡ leb (shape_of q).values room
    by_room good true e = le-leb (shape_of q).values (min room 32) (omega (arith, leb-true (shape_of q).values room e, good_values q good)) ∙ sym e
    by_room good false e = lt-leb (shape_of q).values (min room 32) (omega (arith, leb-false (shape_of q).values room e)) ∙ sym e

-- where there is room, room plays no part
pub enough_room : (q : asked.Question) (line : List ℕ) (room : ℕ) → (shape_of q).values ≤ room → judge_of q line room ≡ judge_of q line (shape_of q).values
enough_room q line room h =
    same_room q line room (shape_of q).values
    (λ good. le-leb (shape_of q).values room h ∙ sym (le-leb (shape_of q).values (shape_of q).values (le_refl (shape_of q).values)))
