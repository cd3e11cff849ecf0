-- The C side's answers: `acceptance`'s laws on the words of the bytes.
use mathlib.Core.Path.{◌≡◌, sym, ap, subst, ◌∙◌}
use mathlib.Core.List.{List}
use Prim.Native.Nat.{ℕ, ◌/◌}
use native.Mathlib.Omega.{arith}
use lib.ListN.{length}
use Rattle.lines.specs.Write.{at_front}
use Rattle.packing.specs.Words.{as_bytes, line_on}
use Rattle.questions.specs.declared.question.Question.{Question}
use Rattle.readings.specs.Reading.{number_of}
use Rattle.judging.specs.Judge.{judge_of}
use Rattle.judging.proofs.Accepted.{accepted_takes}
use Rattle.acceptance.proofs.AcceptedIsAnAnswer.{accepted_is_an_answer}
use Rattle.acceptance.proofs.AnswerIsAccepted.{answer_is_accepted, accepted_reading}
use Rattle.c_reader.specs.ReadBytes.{reading_on, ReadBytesDone}
use Rattle.promises.specs.ByNumber.{packed_number}
use Rattle.promises.specs.CSide.{PackedAs}
use Rattle.promises.specs.CSideAnswers.{CSideAnswers}
use Rattle.promises.proofs.CSideLine.{number_packed}
use Rattle.promises.proofs.CSidePacked.{packed_as}

module _ (q : Question) (line before after : List ℕ) (r : ℕ) (done : ReadBytesDone q line before after r) where
  pub own_number : packed_number r ≡ number_of (reading_on q line before)
  own_number = ap packed_number done.says ∙ number_packed (reading_on q line before)

pub c_side_answers : CSideAnswers
unfolding reading_on
c_side_answers q line before = record {
  only_then = λ after r done accepted.
      let room = length before / 2 in
      let none : number_of (judge_of q (line_on line) room) ≡ 0 = sym (own_number q line before after r done) ∙ accepted in
      let taken = accepted_takes q (line_on line) room none in
      let a = accepted_is_an_answer q (line_on line) room none in (
        a.values,
        record { good = taken.good; room = omega (arith, taken.enough); answer = a.answer },
        subst (PackedAs r) a.reading (packed_as q line before after r done),
        done.leaves ∙ ap (λ (l : List ℕ). at_front (as_bytes l) before) a.handed,
      );
  always_then = λ after r done sends values due.
      let room = length before / 2 in
      let a = answer_is_accepted q due.good sends room (omega (arith, due.room)) values (line_on line) due.answer in (
        own_number q line before after r done ∙ ap number_of a.0 ∙ accepted_reading q values due.answer.fitting,
        subst (PackedAs r) a.0 (packed_as q line before after r done),
        done.leaves ∙ ap (λ (l : List ℕ). at_front (as_bytes l) before) a.1,
      );
}
