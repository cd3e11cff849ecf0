-- What is told is true: the rows before the reader's are not given, and so pass everywhere; the reader's is given, and each row's own law tells where.
use mathlib.Core.Path.{◌≡◌, refl, sym, ap, ◌∙◌, subst}
use mathlib.Core.Bool.{true}
use mathlib.Core.Logic.{inl, inr, ⊎_elim}
use mathlib.Core.List.{List}
use Prim.Native.Nat.{ℕ, ◌+◌, ◌≤◌, ◌<◌, min}
use native.Mathlib.Omega.{arith}
use lib.ListN.{length}
use Rattle.std.specs.Prelude.{Result, Ok, Err}
use Rattle.ground.proofs.Test.{below_or_not}
use Rattle.questions.specs.Question.{good_question}
use Rattle.questions.specs.Shape.{shape_of}
use Rattle.questions.specs.declared.question.Question as asked
use Rattle.questions.proofs.Good.{good_values, words_least}
use Rattle.readings.specs.Reading.{refusal_number, number_of}
use Rattle.readings.specs.declared.Refusal.{Refusal}
use Rattle.readings.specs.declared.Refusal.TheVariants.{Question, Room, Length, Character, Frame, Manchester, Echo, Pec, Alive, Check, Count}
use Rattle.readings.specs.declared.Taken.{Taken}
use Rattle.readings.specs.declared.Taken.TheVariants.{Counted, Written, Values}
use Rattle.judging.specs.Judge.{judge_of}
use Rattle.judging.proofs.Bounds.{room_enough, enough_room}
use Rattle.reasons.specs.Reason.{because_of, reason_for, reason_of}
use Rattle.reasons.proofs.Told.{same_why}
use Rattle.promises.specs.ByNumber.{NumberDue}
use Rattle.promises.specs.Rows.{read_rows}
use Rattle.promises.specs.TellMeWhy.{Passes, Told, TrueOf, TellMeWhy}
use Rattle.promises.proofs.Rows.{by_number, carried}
use Rattle.promises.proofs.RowsPassed.{Given, Numbered, not_before, is_given}
use Rattle.promises.proofs.ChecksPass.{before, by_order, not_false, passes}
use Rattle.promises.proofs.FieldsTold.{told_field}
use Rattle.promises.proofs.SpotsTold.{told_length, told_character, told_frame, told_manchester, told_pec, told_alive, told_check, told_count}
use Rattle.promises.proofs.EchoTold.{told_echo}

-- ---- room plays no part where the values have it

same_room : (q : asked.Question) (line : List ℕ) (room : ℕ) → min (shape_of q).values 32 ≤ room → judge_of q line room ≡ judge_of q line 32
same_room q line room enough =
    ⊎_elim
    (λ (few : room < 32). enough_room q line room (omega arith) ∙ sym (enough_room q line 32 (omega arith)))
    (λ (many : 32 ≤ room). let most : min room 32 ≡ 32 = omega arith in sym (room_enough q line room) ∙ ap (judge_of q line) most)
    (below_or_not room 32)

module _ (q : asked.Question) (line : List ℕ) where
  rows_numbered : Numbered 1 (read_rows q line 32)
  rows_numbered = (refl, (refl, (refl, (refl, (refl, (refl, (refl, (refl, (refl, (refl, (refl, tt)))))))))))

  due : NumberDue (read_rows q line 32) (number_of (judge_of q line 32))
  due = by_number q line 32

  -- ---- accepted

  all_pass : number_of (judge_of q line 32) ≡ 0 → (why : Refusal) (i : ℕ) → Passes q line why i
  all_pass zero why i =
      passes q line why (not_before 1 (read_rows q line 32) (number_of (judge_of q line 32)) (omega arith) rows_numbered due (before why) (inl zero)) i

  -- ---- turned away

  module _ (named : Refusal) (is : judge_of q line 32 ≡ Err named) where
    number : number_of (judge_of q line 32) ≡ 1 + before named
    number = ap number_of is ∙ by_order named

    not_given : (k : ℕ) → k < before named → Given (read_rows q line 32) k → ⊥
    not_given k early =
        not_before 1 (read_rows q line 32) (number_of (judge_of q line 32)) (omega arith) rows_numbered due k (inr (omega (arith, number)))

    early_pass : (why : Refusal) → refusal_number why < refusal_number named → (i : ℕ) → Passes q line why i
    early_pass why early i = passes q line why (not_given (before why) (omega (arith, by_order why, by_order named))) i

    given : Given (read_rows q line 32) (before named)
    given = is_given 1 (read_rows q line 32) (number_of (judge_of q line 32)) (omega (arith, number)) rows_numbered due (before named) number

    good : 0 < before named → good_question q ≡ true
    good later = not_false (good_question q) (not_given 0 later)

    fits : 2 < before named → length line ≡ (shape_of q).words
    fits later = early_pass Length (omega (arith, by_order named)) 0

  told : (why : Refusal) → judge_of q line 32 ≡ Err why → Told q line (because_of q line why)
  told Question is = told_field q line (given Question is) (early_pass Question is)
  told Room is = absurd (omega (arith, given Room is, good_values q (good Room is (omega arith))))
  told Length is = told_length q line (early_pass Length is) (given Length is)
  told (Character i) is = told_character q line i (early_pass (Character i) is) ((carried q line 32 (Character i) is).character i refl)
  told Frame is =
      told_frame q line (early_pass Frame is)
      (omega (arith, fits Frame is (omega arith), words_least q (good Frame is (omega arith)))) (given Frame is)
  told (Manchester i) is = told_manchester q line i (early_pass (Manchester i) is) ((carried q line 32 (Manchester i) is).manchester i refl)
  told Echo is =
      let (i, inside, other) = given Echo is in
      told_echo q line (fits Echo is (omega arith)) (early_pass Echo is) i inside other
  told Pec is = told_pec q line (fits Pec is (omega arith)) (early_pass Pec is) (given Pec is)
  told Alive is = told_alive q line (fits Alive is (omega arith)) (early_pass Alive is) (given Alive is)
  told (Check b) is = told_check q line (fits (Check b) is (omega arith)) b (early_pass (Check b) is) (given (Check b) is)
  told (Count b) is = told_count q line (fits (Count b) is (omega arith)) b (early_pass (Count b) is) (given (Count b) is)

  -- ---- by what the reader says

  tells : (r reading : Result Taken Refusal) → r ≡ judge_of q line 32 → judge_of q line 32 ≡ reading → TrueOf q line r (reason_for q line reading)
  tells r (Ok (Counted n)) says is = (ap number_of (says ∙ is), all_pass (ap number_of is))
  tells r (Ok Written) says is = (ap number_of (says ∙ is), all_pass (ap number_of is))
  tells r (Ok (Values m)) says is = (ap number_of (says ∙ is), all_pass (ap number_of is))
  tells r (Err why) says is = (says ∙ is ∙ ap Err (sym (same_why q line why)), told why is)

pub tell_me_why : TellMeWhy
unfolding reason_of
tell_me_why q line lent after r done room reason is =
    subst (TrueOf q line r) (sym is) (tells q line r (judge_of q line 32) (done.says ∙ same_room q line (length lent) room) refl)
