-- `at_line` meets its contract: the length that would have passed is the answer's.
use Rattle.std.specs.Prelude.{Some}
use Rattle.std.proofs.Common.{length, ap}
use Rattle.questions.specs.declared.question.Shape.{Shape}
use Rattle.reasons.specs.Reason.{found}
use Rattle.reasons.specs.declared.Spot.TheVariants.{Whole}
use Rattle.reasons.proofs.at_line.Goals as goal

pub returns : goal.returns
returns c =
    let a = c.args in
    ap (λ (s : Shape). found a.why Whole (length a.line.now) (Some s.words)) c.shape_of-s.ensures
