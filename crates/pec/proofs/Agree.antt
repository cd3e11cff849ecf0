-- Nothing is left open: two answers that meet a function's contract, as its source states it, are the same.
use mathlib.Core.Path.{sym, ◌∙◌}
use Rattle.ground.specs.Agree.{Settled}
use Rattle.pec.proofs.step.Reads as step
use Rattle.pec.proofs.pec.Reads as pec

pub step_settled : Settled step.Post
step_settled l given r r' left left' p q = p ∙ sym q

pub pec_settled : Settled pec.Post
pec_settled l given r r' left left' p q = p ∙ sym q
