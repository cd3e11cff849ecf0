-- Acceptance means the table, one way: a line that is accepted is the line of a right answer, and what is handed out is what that answer
-- carries.
use mathlib.Core.Path.{◌≡◌, refl, sym, ap, ◌∙◌}
use mathlib.Core.Logic.{⊎_elim}
use mathlib.Core.List.{List, [], ◌∷◌}
use Prim.Native.Nat.{ℕ, ◌+◌, ◌*◌, ◌≤◌, ◌<◌}
use native.Mathlib.Nat.{eq-zero-or-pos}
use native.Mathlib.Omega.{arith}
use Rattle.std.specs.Prelude.{Ok}
use Rattle.ground.proofs.Test.{below_or_not}
use Rattle.lines.specs.Line.{line_of, bytes_of}
use Rattle.scanning.proofs.Whole.{own_bytes}
use Rattle.questions.specs.Shape.{shape_of}
use Rattle.questions.specs.Bytes.{answer_bytes}
use Rattle.questions.specs.declared.question.Question.{Question}
use Rattle.questions.proofs.ByKind.{of_hello, of_write, of_read}
use Rattle.questions.proofs.Good.{good_kind, hello_shape, write_shape, read_shape}
use Rattle.contents.specs.Rows.{byte_in, taken_of}
use Rattle.readings.specs.Reading.{number_of, values_taken}
use Rattle.judging.specs.Judge.{judge_of}
use Rattle.readings.specs.declared.Taken.TheVariants.{Counted, Written, Values}
use Rattle.reader.specs.Read.{values_on}
use Rattle.judging.proofs.Accepted.{Taken, taken_reads, accepted_takes}
use Rattle.contents.proofs.RowLaws.{hello_taken, write_taken, read_taken}
use Rattle.acceptance.specs.Answer.{Answered}
use Rattle.acceptance.specs.Answer.Fitting.{hello, write, read}
use Rattle.acceptance.proofs.AcceptedHello.{hello_bytes, right_count}
use Rattle.acceptance.proofs.AcceptedWrite.{write_bytes}
use Rattle.acceptance.proofs.AcceptedRead.{read_bytes, read_values}

module _ (q : Question) (line : List ℕ) (room : ℕ) (accepted : number_of (judge_of q line room) ≡ 0) where
  taken : Taken q line room
  taken = accepted_takes q line room accepted

  verdict : judge_of q line room ≡ taken_of q (bytes_of line)
  verdict = taken_reads q line room taken

  answer_line : (values : List ℕ) (count : ℕ) → (shape_of q).words ≡ 2 * count + 2 → bytes_of line ≡ answer_bytes q values 0
      → line ≡ line_of (answer_bytes q values 0)
  answer_line values count words e = own_bytes line count (taken.words ∙ words) taken.rows ∙ ap line_of e

  hello_answered : q.kind ≡ 0 → Answered q line room
  hello_answered e =
      let b = byte_in (bytes_of line) 2 in
      let right = right_count q line room taken e in
      let reading : judge_of q line room ≡ Ok (Counted b) = verdict ∙ sym (hello_taken q (bytes_of line) e) in
      record {
        values = b ∷ [];
        answer = record {
          fitting = hello e (record { count = b; only = refl; least = right.0; most = right.1 });
          written = answer_line (b ∷ []) 3 (ap (λ s. s.words) (hello_shape q e)) (hello_bytes q line room taken e);
        };
        reading = reading ∙ sym (of_hello q.kind _ _ _ e);
        handed = ap (λ r. values_on line (values_taken r)) reading ∙ sym (of_hello q.kind _ _ _ e);
      }

  write_answered : 1 ≤ q.kind → q.kind ≤ 2 → Answered q line room
  write_answered lo hi =
      let s = write_shape q lo hi in
      let words : (shape_of q).words ≡ 2 * (5 + q.alive) + 2 = omega (arith, s.words) in
      let reading : judge_of q line room ≡ Ok Written = verdict ∙ sym (write_taken q (bytes_of line) lo hi) in
      record {
        values = [];
        answer = record { fitting = write lo hi refl; written = answer_line [] (5 + q.alive) words (write_bytes q line room taken lo hi) };
        reading = reading ∙ sym (of_write q.kind _ _ _ lo hi);
        handed = ap (λ r. values_on line (values_taken r)) reading ∙ sym (of_write q.kind _ _ _ lo hi);
      }

  read_answered : 3 ≤ q.kind → Answered q line room
  read_answered lo =
      let m = (shape_of q).values in
      let s = read_shape q lo in
      let words : (shape_of q).words ≡ 2 * (2 * m + 4 + q.alive) + 2 = omega (arith, s.words) in
      let reading : judge_of q line room ≡ Ok (Values m) = verdict ∙ sym (read_taken q (bytes_of line) lo) in
      record {
        values = values_on line m;
        answer = record {
          fitting = read lo (good_kind q taken.good) (read_values q line room taken lo);
          written = answer_line (values_on line m) (2 * m + 4 + q.alive) words (read_bytes q line room taken lo);
        };
        reading = reading ∙ sym (of_read q.kind _ _ _ lo);
        handed = ap (λ r. values_on line (values_taken r)) reading ∙ sym (of_read q.kind _ _ _ lo);
      }

  -- An accepted line is the line of a right answer: of some count 1..32, of the one write's answer, or of as many register values as asked
  -- for; and the reading and the values handed out are that answer's.
  pub accepted_is_an_answer : Answered q line room
  accepted_is_an_answer =
      ⊎_elim
      (λ (low : q.kind < 3). ⊎_elim hello_answered (λ lo. write_answered lo (omega arith)) (eq-zero-or-pos q.kind))
      read_answered (below_or_not q.kind 3)
