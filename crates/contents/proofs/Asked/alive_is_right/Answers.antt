-- `alive_is_right` meets its contract: the byte is held to the wrapped sum of the seed and the devices that act.
use Rattle.std.proofs.Common.{ap, arith}
use Rattle.questions.specs.declared.question.Shape.{Shape}
use Rattle.questions.proofs.Good.{covered_le}
use Rattle.contents.proofs.Asked.alive_is_right.Goals as goal

pub overflow_add-self : goal.overflow_add-self
overflow_add-self c =
    omega (
      arith,
      ap (λ (s : Shape). s.covered) c.args.self.shaped,
      covered_le c.args.self.question,
      c.well_formed.0,
    )
