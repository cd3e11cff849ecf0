-- Nothing is left open: two answers that meet a function's contract, as its source states it, are the same.
use mathlib.Core.Path.{sym, ◌∙◌}
use Rattle.ground.specs.Agree.{Settled}
use Rattle.hearing.proofs.is_place.Reads as is_place
use Rattle.hearing.proofs.carried_by.Reads as carried_by
use Rattle.hearing.proofs.hear.Reads as hear

pub is_place_settled : Settled is_place.Post
is_place_settled l given r r' left left' p q = p ∙ sym q

pub carried_by_settled : Settled carried_by.Post
carried_by_settled l given r r' left left' p q = p ∙ sym q

pub hear_settled : Settled hear.Post
hear_settled l given r r' left left' p q = p ∙ sym q
