-- Demand 3 is met. A damaged line that were accepted would be another answer's line; but two right answers to one question are six line bits
-- apart with 14 devices or fewer, and four with more.
use mathlib.Core.Path.{◌≡◌, refl, sym, ap, ◌∙◌}
use mathlib.Core.Bool.{Bool, true, ◌&&◌, ◌||◌}
use mathlib.Core.Logic.{◌⊎◌, inl, inr, ⊎_elim}
use mathlib.Core.List.{List}
use Prim.Native.Nat.{ℕ, zero, suc, ◌≤◌}
use native.Mathlib.Omega.{arith}
use lib.Dec.{leb}
use lib.ListN.{length}
use borrow.Author.Tests.{leb-true}
use Rattle.std.specs.Prelude.{Result, Ok}
use Rattle.ground.specs.Sweep.{every}
use Rattle.ground.proofs.Test.{and_left, and_right, or_cases}
use Rattle.ground.proofs.Sweep.{swept}
use Rattle.remainder.specs.Turned.{turned}
use Rattle.lines.specs.Write.{at_front}
use Rattle.questions.specs.Shape.{shape_at, shape_of}
use Rattle.questions.specs.declared.question.Question.{Question}
use Rattle.questions.proofs.ByKind.{of_read}
use Rattle.questions.proofs.Good.{good_count}
use Rattle.readings.specs.Reading.{number_of}
use Rattle.judging.specs.Judge.{judge_of}
use Rattle.reader.specs.Read.{ReadDone}
use Rattle.readings.specs.declared.Refusal.{Refusal}
use Rattle.readings.specs.declared.Taken.{Taken}
use Rattle.readings.specs.declared.Taken.TheVariants.{Values}
use Rattle.acceptance.specs.Answer.{AllValues, Fitting, AnswerTo}
use Rattle.acceptance.specs.Answer.Fitting.{hello, write, read}
use Rattle.acceptance.proofs.AcceptedIsAnAnswer.{accepted_is_an_answer}
use Rattle.acceptance.proofs.AnswerIsAccepted.{answer_is_accepted}
use Rattle.promises.specs.Demand1.{TurnedAway}
use Rattle.promises.specs.Demand3.{ReadsAll, answer_line, Damage, most_bits, Demand3}
use Rattle.promises.proofs.RefusedWritesNothing.{refused_read}
use Rattle.promises.proofs.Apart.{asks_all, four_at_least, six_at_least}

-- three bits are promised, or five with 14 devices at most: computed for every number of devices
few_bits : ℕ → Bool
few_bits n = leb (most_bits n) 3 || (leb (most_bits n) 5 && leb n 14)

all_few : every few_bits 33 ≡ true
unfolding few_bits
all_few = refl

bits_for : (n : ℕ) → n ≤ 32 → (most_bits n ≤ 3) ⊎ ((most_bits n ≤ 5) × (n ≤ 14))
unfolding few_bits
bits_for n most =
    ⊎_elim (λ three. inl (leb-true (most_bits n) 3 three))
    (λ five. inr (leb-true (most_bits n) 5 (and_left _ _ five), leb-true n 14 (and_right (leb (most_bits n) 5) _ five)))
    (or_cases (leb (most_bits n) 3) (leb (most_bits n) 5 && leb n 14) (swept few_bits 33 all_few n (omega arith)))

-- a READALL asks for as many values as there are devices
pub values_wanted : (q : Question) → q.kind ≡ 3 → (shape_of q).values ≡ q.n
unfolding shape_of
values_wanted q is = ap (λ (k : ℕ). (shape_at k q).values) is

module _ (q : Question) (values : List ℕ) (all : ReadsAll q values) where
  pub all_values : AllValues q values
  all_values = record { number = all.number ∙ sym (values_wanted q all.kind); registers = all.registers }

  -- undamaged, it is accepted, and each device's register stands once at the front of the output, in address order
  taken : (before after : List ℕ) (r : Result Taken Refusal) → length values ≤ length before → ReadDone q (answer_line q values) before after r
      → (r ≡ Ok (Values q.n)) × (after ≡ at_front values before)
  taken before after r room done =
      let is = all.kind in
      let wanted = values_wanted q is in
      let line = answer_line q values in
      let sent : AnswerTo q values line = record { fitting = read (omega arith) (omega arith) all_values; written = refl } in
      let answered = answer_is_accepted q all.good all.sends (length before) (omega (arith, wanted, all.number)) values line sent in (
        done.says ∙ answered.0 ∙ of_read q.kind _ _ _ (omega arith) ∙ ap (λ (m : ℕ). Ok (Values m)) wanted,
        done.leaves ∙ ap (λ (l : List ℕ). at_front l before) (answered.1 ∙ of_read q.kind _ _ _ (omega arith)),
      )

  -- a damaged line that no answer has is turned away
  refused : (masks : List ℕ) → ((other : List ℕ) → AllValues q other → turned (answer_line q values) masks ≡ answer_line q other → ⊥)
      → (before after : List ℕ) (r : Result Taken Refusal) → ReadDone q (turned (answer_line q values) masks) before after r
      → TurnedAway (number_of r) × (after ≡ before)
  refused masks never before after r done =
      let away : TurnedAway (number_of r) = omega (arith, ap number_of done.says, by_number (number_of judged) refl) in
      (away, refused_read q damaged before after r done away)
    where
      damaged : List ℕ
      damaged = turned (answer_line q values) masks

      judged : Result Taken Refusal
      judged = judge_of q damaged (length before)

      by_fitting : (other : List ℕ) → Fitting q other → damaged ≡ answer_line q other → ⊥
      by_fitting other (hello e c) w = omega (arith, all.kind)
      by_fitting other (write lo hi e) w = omega (arith, all.kind)
      by_fitting other (read lo hi fits) w = never other fits w

      by_number : (k : ℕ) → number_of judged ≡ k → TurnedAway (number_of judged)
      by_number zero e =
          let a = accepted_is_an_answer q damaged (length before) e in
          absurd (by_fitting a.values a.answer.fitting a.answer.written)
      by_number (suc k) e = omega arith

  -- as any is that has too few bits turned over to be another answer's
  damaged : (masks : List ℕ) → Damage (answer_line q values) masks (most_bits q.n)
      → (before after : List ℕ) (r : Result Taken Refusal) → ReadDone q (turned (answer_line q values) masks) before after r
      → TurnedAway (number_of r) × (after ≡ before)
  damaged masks d =
      refused masks (λ other fits w.
      let asks = asks_all q values all in
      let four = four_at_least q asks values other all_values fits masks d.every d.some w in
      ⊎_elim (λ (three : most_bits q.n ≤ 3). omega (arith, d.few, four))
      (λ both.
      let six = six_at_least q asks values other all_values fits masks d.every d.some w (omega (arith, both.1, all.number)) in
      omega (arith, d.few, both.0, six))
      (bits_for q.n (good_count q all.good (omega (arith, all.kind))).1))

pub demand_3 : Demand3
demand_3 = record { undamaged = taken; damaged = damaged }
