-- Acceptance means the table, the other way: the line of a right answer is accepted, with that answer's reading and values.
use mathlib.Core.Path.{◌≡◌, sym, ap, ◌∙◌, subst}
use mathlib.Core.Bool.{true}
use mathlib.Core.List.{List, [], ◌∷◌}
use Prim.Native.Nat.{ℕ, ◌≤◌}
use Rattle.lines.specs.Line.{line_of}
use Rattle.questions.specs.Question.{good_question}
use Rattle.questions.specs.Shape.{shape_of}
use Rattle.questions.specs.Bytes.{answer_bytes}
use Rattle.questions.specs.declared.question.Question.{Question}
use Rattle.questions.proofs.ByKind.{of_hello, of_write, of_read}
use Rattle.readings.specs.Reading.{number_of, values_taken}
use Rattle.judging.specs.Judge.{judge_of}
use Rattle.reader.specs.Read.{values_on}
use Rattle.acceptance.specs.Answer.{AllValues, Fitting, AnswerTo, reading_of, handed_out, Sendable}
use Rattle.acceptance.specs.Answer.Fitting.{hello, write, read}
use Rattle.acceptance.proofs.HelloIsAccepted.{hello_bytes, hello_reads}
use Rattle.acceptance.proofs.WriteIsAccepted.{write_line, write_reads}
use Rattle.acceptance.proofs.ReadIsAccepted.{read_covered_lem, read_line, read_reads, read_hands_out}

module _ (q : Question) (good : good_question q ≡ true) (s : Sendable q) (room : ℕ) (enough : (shape_of q).values ≤ room) where
  -- the reading and the values handed out are those of the answer
  abbrev ReadsAs : (values line : List ℕ) → Type 0
  ReadsAs values line =
      (judge_of q line room ≡ reading_of q values) × (values_on line (values_taken (judge_of q line room)) ≡ handed_out q values)

  hello_reads_as : (e : q.kind ≡ 0) (count : ℕ) → 1 ≤ count → count ≤ 32 → ReadsAs (count ∷ []) (line_of (answer_bytes q (count ∷ []) 0))
  unfolding answer_bytes hello_bytes
  hello_reads_as e count least most =
      let line = line_of (hello_bytes q good s room enough e count least most) in
      let reads = hello_reads q good s room enough e count least most in
      subst (ReadsAs (count ∷ [])) (ap line_of (sym (of_hello q.kind _ _ _ e)))
      (reads ∙ sym (of_hello q.kind _ _ _ e), ap (λ r. values_on line (values_taken r)) reads ∙ sym (of_hello q.kind _ _ _ e))

  write_reads_as : 1 ≤ q.kind → q.kind ≤ 2 → ReadsAs [] (line_of (answer_bytes q [] 0))
  unfolding answer_bytes write_line
  write_reads_as lo hi =
      let reads = write_reads q good s room enough lo hi in
      subst (ReadsAs []) (ap line_of (sym (of_write q.kind _ _ _ lo hi)))
      (reads ∙ sym (of_write q.kind _ _ _ lo hi), ap (λ r. values_on (write_line q good s room enough lo hi) (values_taken r)) reads ∙ sym (of_write q.kind _ _ _ lo hi))

  read_reads_as : 3 ≤ q.kind → (values : List ℕ) → AllValues q values → ReadsAs values (line_of (answer_bytes q values 0))
  unfolding answer_bytes read_line read_covered_lem
  read_reads_as lo values all =
      let line = read_line q good s room enough lo values all.number all.registers in
      let reads = read_reads q good s room enough lo values all.number all.registers in
      subst (ReadsAs values) (ap line_of (sym (of_read q.kind _ _ _ lo))) (
        reads ∙ sym (of_read q.kind _ _ _ lo),
        ap (λ r. values_on line (values_taken r)) reads ∙ read_hands_out q good s room enough lo values all.number all.registers ∙ sym (of_read q.kind _ _ _ lo),
      )

  -- The line of a right answer is accepted: its reading is that answer's, and the values handed out are those that it carries.
  pub answer_is_accepted : (values line : List ℕ) → AnswerTo q values line
      → (judge_of q line room ≡ reading_of q values) × (values_on line (values_taken (judge_of q line room)) ≡ handed_out q values)
  answer_is_accepted values line a = subst (ReadsAs values) (sym a.written) (by_form a.fitting)
    where
      by_form : Fitting q values → ReadsAs values (line_of (answer_bytes q values 0))
      by_form (hello e c) =
          subst (λ (v : List ℕ). ReadsAs v (line_of (answer_bytes q v 0))) (sym c.only) (hello_reads_as e c.count c.least c.most)
      by_form (write lo hi none) = subst (λ (v : List ℕ). ReadsAs v (line_of (answer_bytes q v 0))) (sym none) (write_reads_as lo hi)
      by_form (read lo hi all) = read_reads_as lo values all

-- the reading of a right answer is an accepted one
pub accepted_reading : (q : Question) (values : List ℕ) → Fitting q values → number_of (reading_of q values) ≡ 0
accepted_reading q values (hello e c) = ap number_of (of_hello q.kind _ _ _ e)
accepted_reading q values (write lo hi e) = ap number_of (of_write q.kind _ _ _ lo hi)
accepted_reading q values (read lo hi all) = ap number_of (of_read q.kind _ _ _ lo)
