-- `explain` meets its contract: the reader is asked, with room for any answer's values.
use Rattle.std.specs.Prelude.{Result, Ok, Err}
use Rattle.std.proofs.Common.{◌≡◌, ℕ, List, length, replicate, refl, sym, ap, ◌∙◌}
use lib.ListN.{length-replicate}
use Rattle.questions.specs.declared.question.Question.{Question}
use Rattle.readings.specs.declared.Refusal.{Refusal}
use Rattle.readings.specs.declared.Taken.{Taken}
use Rattle.readings.specs.declared.Taken.TheVariants.{Counted, Written, Values}
use Rattle.judging.specs.Judge.{judge_of}
use Rattle.reasons.specs.Reason.{reason_for, reason_of}
use Rattle.reasons.proofs.explain.Goals as goal

-- what is said of the reading is what the definition says
of_reading : (q : Question) (line : List ℕ) (reading : Result Taken Refusal) → reading ≡ judge_of q line (length (replicate {A = ℕ} 32 0)) → reason_for q line reading ≡ reason_of q line
unfolding reason_of
of_reading q line reading says = ap (reason_for q line) (says ∙ ap (judge_of q line) (length-replicate {A = ℕ} 32 0))

accepted : (q : Question) (line : List ℕ) (taken : Taken) → reason_for q line (Ok taken) ≡ Ok tt
accepted q line (Counted n) = refl
accepted q line Written = refl
accepted q line (Values m) = refl

pub returns-in-Ok : goal.returns-in-Ok
returns-in-Ok c =
    let a = c.args in
    sym (accepted a.q a.line.now c.in-Ok.field-0) ∙ sym (ap (reason_for a.q a.line.now) c.in-Ok.is)
    ∙ of_reading a.q a.line.now c.read.result c.read.ensures.says

pub returns-in-Err : goal.returns-in-Err
returns-in-Err c =
    let a = c.args in
    ap Err c.reason_for.ensures ∙ sym (ap (reason_for a.q a.line.now) c.in-Err.is)
    ∙ of_reading a.q a.line.now c.read.result c.read.ensures.says
