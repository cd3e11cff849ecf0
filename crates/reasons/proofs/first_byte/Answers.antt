-- `first_byte` meets its contract: it is the shape's.
use Rattle.std.proofs.Common.{ap}
use Rattle.questions.specs.declared.question.Shape.{Shape}
use Rattle.reasons.proofs.first_byte.Goals as goal

pub returns : goal.returns
returns c = ap (λ (s : Shape). s.first) c.shape_of-s.ensures
