-- `at_check` meets its contract: the check byte stands behind the values.
use Rattle.std.specs.Prelude.{Some}
use Rattle.std.proofs.Common.{◌+◌, ◌*◌, ap, ◌∙◌, arith}
use Rattle.questions.specs.declared.question.Shape.{Shape}
use Rattle.reasons.proofs.Told.{values_le}
use Rattle.reasons.specs.Reason.{at_byte}
use Rattle.reasons.proofs.at_check.Goals as goal

pub overflow_mul-s : goal.overflow_mul-s
overflow_mul-s c =
    omega (arith, ap (λ (s : Shape). s.values) c.shape_of-s.ensures, values_le c.args.q, c.well_formed.0)

pub overflow_add-s : goal.overflow_add-s
overflow_add-s c =
    omega (arith, ap (λ (s : Shape). s.values) c.shape_of-s.ensures, values_le c.args.q, c.well_formed.0)

pub returns : goal.returns
returns c =
    let a = c.args in
    c.at_byte.ensures ∙ ap (λ (s : Shape). at_byte a.line.now a.why (2 + 2 * s.values) (Some 0)) c.shape_of-s.ensures
