-- What a reading carries as a byte or as a count is a byte of the line.
use mathlib.Core.Bool.{Bool, true, false}
use mathlib.Core.List.{List}
use Prim.Native.Nat.{ℕ, zero, suc, ◌+◌, ◌*◌, ◌<◌}
use native.Mathlib.Omega.{arith}
use lib.Dec.{eqb, leb}
use lib.ListN.{length}
use Rattle.std.specs.Prelude.{Result, Ok, Option, Some, None}
use Rattle.lines.specs.Line.{bytes_of}
use Rattle.lines.proofs.Line.{bytes_bytes}
use Rattle.scanning.specs.Place.{first_no_character, first_no_nibble}
use Rattle.scanning.specs.Frame.{framed}
use Rattle.questions.specs.Question.{by_form, good_question}
use Rattle.questions.specs.Shape.{shape_of}
use Rattle.questions.specs.declared.question.Question as asked
use Rattle.readings.specs.Reading.{refusal_byte, byte_of, count_of}
use Rattle.readings.specs.FirstFault.{Said, given_unless, said}
use Rattle.readings.specs.declared.Refusal.{Refusal}
use Rattle.readings.specs.declared.Refusal.TheVariants.{Question, Room, Length, Character, Frame, Manchester, Echo, Pec, Alive, Check, Count}
use Rattle.readings.specs.declared.Taken.{Taken}
use Rattle.readings.specs.declared.Taken.TheVariants.{Counted, Written, Values}
use Rattle.readings.proofs.FirstFault.{first_of_each}
use Rattle.readings.proofs.FirstFault.Each.{none, next}
use Rattle.contents.specs.Rows.{byte_in, echoed, pec_right, alive_right, check_byte, count_right, taken_of}
use Rattle.contents.specs.InOrder.{byte_rows}
use Rattle.judging.specs.Judge.{given_at, screen_rows, rows_of, judge_of}

-- byte and count together, of which no reading has both
abbrev pub carried_byte : Result Taken Refusal → ℕ
carried_byte r = byte_of r + count_of r

module _ (q : asked.Question) (line : List ℕ) where
  small_taken : carried_byte (taken_of q (bytes_of line)) < 256
  unfolding taken_of
  small_taken = by_kind q.kind
    where
      by_kind : (k : ℕ) → carried_byte (by_form k (Ok (Counted (byte_in (bytes_of line) 2))) (Ok Written) (Ok (Values (shape_of q).values))) < 256
      by_kind zero = omega (arith, bytes_bytes line 2)
      by_kind (suc zero) = omega arith
      by_kind (suc (suc zero)) = omega arith
      by_kind (suc (suc (suc zero))) = omega arith
      by_kind (suc (suc (suc (suc k)))) = omega arith

  small_check : check_byte q (bytes_of line) < 256
  unfolding check_byte
  small_check = by_kind q.kind
    where
      by_kind : (k : ℕ) → by_form k 0 0 (byte_in (bytes_of line) (2 + 2 * (shape_of q).values)) < 256
      by_kind zero = omega arith
      by_kind (suc zero) = omega arith
      by_kind (suc (suc zero)) = omega arith
      by_kind (suc (suc (suc zero))) = bytes_bytes line (2 + 2 * (shape_of q).values)
      by_kind (suc (suc (suc (suc k)))) = bytes_bytes line (2 + 2 * (shape_of q).values)

  abbrev Small : Said → Type 0
  Small s = carried_byte (said s (taken_of q (bytes_of line))) < 256

  unless : (why : Refusal) (t : Bool) → refusal_byte why < 256 → Small (given_unless why t)
  unless why true row = small_taken
  unless why false row = omega arith

  at : (why : ℕ → Refusal) (p : Option ℕ) → ((i : ℕ) → refusal_byte (why i) < 256) → Small (given_at why p)
  at why (Some i) row = omega (arith, row i)
  at why None row = small_taken

  pub small_byte : (room : ℕ) → carried_byte (judge_of q line room) < 256
  unfolding judge_of rows_of screen_rows byte_rows
  small_byte room =
      first_of_each Small small_taken (rows_of q line room)
      (next (unless Question (good_question q) (omega arith))
      (next (unless Room (leb (shape_of q).values room) (omega arith))
      (next (unless Length (eqb (length line) (shape_of q).words) (omega arith))
      (next (at Character (first_no_character line) (λ i. omega arith))
      (next (unless Frame (framed line) (omega arith))
      (next (at Manchester (first_no_nibble line) (λ i. omega arith))
      (next (unless Echo (echoed q (bytes_of line)) (omega arith))
      (next (unless Pec (pec_right q (bytes_of line)) (omega arith))
      (next (unless Alive (alive_right q (bytes_of line)) (omega arith))
      (next (unless (Check (check_byte q (bytes_of line))) (eqb (check_byte q (bytes_of line)) 0) small_check)
      (next (unless (Count (byte_in (bytes_of line) 2)) (count_right q (bytes_of line)) (bytes_bytes line 2))
      none)))))))))))
