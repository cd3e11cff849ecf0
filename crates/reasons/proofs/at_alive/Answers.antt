-- `at_alive` meets its contract: the seed and the devices that act, wrapped.
use Rattle.std.specs.Prelude.{Some}
use Rattle.std.proofs.Common.{◌+◌, ◌%◌, ap, ◌∙◌, arith}
use Rattle.questions.specs.declared.question.Shape.{Shape}
use Rattle.questions.proofs.Good.{covered_le}
use Rattle.readings.specs.declared.Refusal.TheVariants as row
use Rattle.reasons.specs.Reason.{at_byte}
use Rattle.reasons.proofs.at_alive.Goals as goal

pub overflow_add-s : goal.overflow_add-s
overflow_add-s c =
    omega (arith, ap (λ (s : Shape). s.covered) c.shape_of-s.ensures, covered_le c.args.q, c.well_formed.0)

pub returns : goal.returns
returns c =
    let a = c.args in
    let line = a.line.now in
    c.at_byte.ensures ∙ ap (λ (s : Shape). at_byte line row.Alive (s.covered + 1) (Some ((a.q.seed + s.acting) % 256))) c.shape_of-s.ensures
