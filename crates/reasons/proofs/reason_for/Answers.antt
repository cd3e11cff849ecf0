-- `reason_for` meets its contract: each arm is the row of its refusal.
use mathlib.Core.Logic.{⊎_elim}
use Rattle.std.specs.Prelude.{None}
use Rattle.std.proofs.Common.{◌≡◌, ℕ, List, sym, refl, ap, ◌∙◌}
use Rattle.questions.specs.declared.question.Question.{Question}
use Rattle.readings.specs.declared.Refusal.{Refusal}
use Rattle.readings.specs.declared.Refusal.TheVariants as row
use Rattle.reasons.specs.Reason.{bad_field, at_field, at_line, at_byte, at_ends, at_echo, at_pec, at_alive, at_check, because_of}
use Rattle.reasons.specs.declared.Because.{Because}
use Rattle.reasons.proofs.reason_for.Goals as goal

-- what the callee says of this refusal is what the definition says of its row
by_row : (q : Question) (line : List ℕ) (f : Refusal → Because) {why w : Refusal} → why ≡ w → f w ≡ because_of q line w → f why ≡ because_of q line why
by_row q line f is eq = ap f is ∙ eq ∙ sym (ap (because_of q line) is)

pub returns-in-Question : goal.returns-in-Question
returns-in-Question c =
    let a = c.args in
    c.at_field.ensures ∙ ap (at_field a.q) c.bad_field.ensures ∙ by_row a.q a.line.now (λ w. at_field a.q (bad_field a.q)) c.in-Question.is refl

pub returns-in-Room : goal.returns-in-Room
returns-in-Room c =
    let a = c.args in
    c.at_line.ensures ∙ ⊎_elim (λ (is : a.why ≡ row.Room). by_row a.q a.line.now (at_line a.q a.line.now) is refl)
    (λ (is : a.why ≡ row.Length). by_row a.q a.line.now (at_line a.q a.line.now) is refl) c.in-Room.is

pub returns-in-Frame : goal.returns-in-Frame
returns-in-Frame c =
    let a = c.args in
    c.at_ends.ensures ∙ by_row a.q a.line.now (λ w. at_ends a.line.now) c.in-Frame.is refl

pub returns-in-Echo : goal.returns-in-Echo
returns-in-Echo c =
    let a = c.args in
    c.at_echo.ensures ∙ by_row a.q a.line.now (λ w. at_echo a.q a.line.now) c.in-Echo.is refl

pub returns-in-Pec : goal.returns-in-Pec
returns-in-Pec c =
    let a = c.args in
    c.at_pec.ensures ∙ by_row a.q a.line.now (λ w. at_pec a.q a.line.now) c.in-Pec.is refl

pub returns-in-Alive : goal.returns-in-Alive
returns-in-Alive c =
    let a = c.args in
    c.at_alive.ensures ∙ by_row a.q a.line.now (λ w. at_alive a.q a.line.now) c.in-Alive.is refl

pub returns-in-Check : goal.returns-in-Check
returns-in-Check c =
    let a = c.args in
    c.at_check.ensures ∙ by_row a.q a.line.now (at_check a.q a.line.now) c.in-Check.is refl

pub returns-in-Count : goal.returns-in-Count
returns-in-Count c =
    let a = c.args in
    c.at_byte.ensures ∙ by_row a.q a.line.now (λ w. at_byte a.line.now w 2 None) c.in-Count.is refl
