-- Demand 2 is met. The command writer's answer tells whether its question was good and had room. What the reader accepts is a right answer's
-- line, and every right answer's line is accepted: the laws of `acceptance`, said of the call with its output.
use mathlib.Core.Path.{◌≡◌, refl, sym, ap, ◌∙◌, subst}
use mathlib.Core.Bool.{true}
use mathlib.Core.List.{List}
use Prim.Native.Nat.{ℕ, ◌≤◌}
use native.Mathlib.Nat.{le_refl}
use native.Mathlib.Omega.{arith}
use lib.ListN.{length}
use Rattle.std.specs.Prelude.{Result, Ok, Err}
use Rattle.lines.specs.Line.{bytes_of}
use Rattle.lines.specs.Write.{at_front}
use Rattle.questions.proofs.Good.{words_most}
use Rattle.questions.specs.Question.{hello_all, good_question}
use Rattle.questions.specs.Shape.{shape_of}
use Rattle.questions.specs.declared.question.Question as asked
use Rattle.commands.specs.Command.{command_line, CommandPut, issued_number}
use Rattle.commands.specs.declared.CommandRefusal.{CommandRefusal}
use Rattle.commands.specs.declared.CommandRefusal.TheVariants as refused
use Rattle.commands.proofs.Issuing.{issued_good, issued_words, command_written}
use Rattle.readings.specs.Reading.{number_of}
use Rattle.reader.specs.Read.{ReadDone}
use Rattle.readings.specs.declared.Refusal.{Refusal}
use Rattle.readings.specs.declared.Taken.{Taken}
use Rattle.readings.specs.declared.Taken.TheVariants.{Counted}
use Rattle.contents.proofs.RowLaws.{hello_taken}
use Rattle.judging.proofs.Accepted.{taken_reads, accepted_takes}
use Rattle.acceptance.specs.Answer.{Sendable, reading_of, handed_out}
use Rattle.acceptance.proofs.Lengths.{command_words}
use Rattle.acceptance.proofs.AcceptedIsAnAnswer.{accepted_is_an_answer}
use Rattle.acceptance.proofs.AnswerIsAccepted.{answer_is_accepted, accepted_reading}
use Rattle.promises.specs.ByNumber.{NumberDue}
use Rattle.promises.specs.Rows.{count_in, read_rows}
use Rattle.promises.specs.Demand2.{CommandDue, Due, Demand2}
use Rattle.promises.proofs.Certificate.{printed_certificate}
use Rattle.promises.proofs.Rows.{by_number, carried}

-- ---- commands

module _ (q : asked.Question) (before after : List ℕ) (r : Result ℕ CommandRefusal) (done : CommandPut q before after r) where
  written : good_question q ≡ true → length (command_line q) ≤ length before → (r ≡ Ok (length (command_line q))) × (after ≡ at_front (command_line q) before)
  written good room = (done.says ∙ issued_good q (length before) good (omega arith), command_written q before after r done good (omega arith))

  command_only_then : issued_number r ≡ 0
      → (line : List ℕ) × CommandDue q (length before) line × (r ≡ Ok (length line)) × (after ≡ at_front line before)
  command_only_then = by_answer r refl
    where
      by_answer : (i : Result ℕ CommandRefusal) → r ≡ i → issued_number i ≡ 0
          → (line : List ℕ) × CommandDue q (length before) line × (r ≡ Ok (length line)) × (after ≡ at_front line before)
      by_answer (Ok n) e none =
          let i = issued_words q (length before) n (sym done.says ∙ e) in
          let done = written i.good (omega (arith, i.fits)) in
          (command_line q, (i.good, refl, omega (arith, i.fits)), done.0, done.1)
      by_answer (Err refused.Question) e none = absurd (omega arith)
      by_answer (Err refused.Room) e none = absurd (omega arith)

  command_always_then : Unit {0} → (line : List ℕ) → CommandDue q (length before) line
      → (issued_number r ≡ 0) × (r ≡ Ok (length line)) × (after ≡ at_front line before)
  command_always_then sent line (good, is, room) =
      let done = written good (omega (arith, ap length is, room)) in
      (ap issued_number done.0, done.0 ∙ ap (λ (l : List ℕ). Ok (length l)) (sym is), done.1 ∙ ap (λ (l : List ℕ). at_front l before) (sym is))

-- ---- answers

module _ (q : asked.Question) (line before after : List ℕ) (r : Result Taken Refusal) (done : ReadDone q line before after r) where
  only_then : number_of r ≡ 0
      → (values : List ℕ) × Due q line (length before) values × (r ≡ reading_of q values) × (after ≡ at_front (handed_out q values) before)
  only_then accepted =
      let taken = accepted_takes q line (length before) (ap number_of (sym done.says) ∙ accepted) in
      let a = accepted_is_an_answer q line (length before) (ap number_of (sym done.says) ∙ accepted) in (
        a.values,
        record { good = taken.good; room = omega (arith, taken.enough); answer = a.answer },
        done.says ∙ a.reading,
        done.leaves ∙ ap (λ (l : List ℕ). at_front l before) a.handed,
      )

  always_then : Sendable q → (values : List ℕ) → Due q line (length before) values
      → (number_of r ≡ 0) × (r ≡ reading_of q values) × (after ≡ at_front (handed_out q values) before)
  always_then s values due =
      let a = answer_is_accepted q due.good s (length before) (omega arith) values line due.answer in (
        ap number_of (done.says ∙ a.0) ∙ accepted_reading q values due.answer.fitting,
        done.says ∙ a.0,
        done.leaves ∙ ap (λ (l : List ℕ). at_front l before) a.1,
      )

  hello_count : q.kind ≡ hello_all → number_of r ≡ 0 → r ≡ Ok (Counted (count_in (bytes_of line)))
  hello_count hello accepted =
      let taken = accepted_takes q line (length before) (ap number_of (sym done.says) ∙ accepted) in
      done.says ∙ taken_reads q line (length before) taken ∙ sym (hello_taken q (bytes_of line) hello)

pub demand_2 : Demand2
demand_2 = record {
  commands = λ q before. record { only_then = command_only_then q before; always_then = command_always_then q before };
  answers = λ q line before. record { only_then = only_then q line before; always_then = always_then q line before };
  hello_count = hello_count;
  by_rows = λ q line before after r done. subst (NumberDue (read_rows q line (length before))) (sym (ap number_of done.says)) (by_number q line (length before));
  carried = λ q line before after r done why is. carried q line (length before) why (sym done.says ∙ is);
  equal_length = λ q good s values line answer.
      let room = (shape_of q).values in
      let a = answer_is_accepted q good s room (le_refl room) values line answer in
      let taken = accepted_takes q line room (ap number_of a.0 ∙ accepted_reading q values answer.fitting) in
      (taken.words ∙ sym (command_words q good), omega (arith, taken.words, words_most q good));
  certificate = printed_certificate;
}
