-- Nothing is left open: two answers that meet a function's contract, as its source states it, are the same.
use Rattle.std.proofs.Common.{sym, ◌∙◌}
use Rattle.ground.specs.Agree.{Settled}
use Rattle.reasons.proofs.explain.Reads as explain
use Rattle.reasons.proofs.BecauseTurnedAway.number.Reads as number

pub explain_settled : Settled explain.Post
explain_settled l given r r' left left' p q = p ∙ sym q

pub number_settled : Settled number.Post
number_settled l given r r' left left' p q = p ∙ sym q
