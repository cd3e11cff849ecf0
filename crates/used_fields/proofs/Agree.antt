-- Nothing is left open: two answers that meet the function's contract, as its source states it, are the same.
use mathlib.Core.Path.{sym, ◌∙◌}
use Rattle.ground.specs.Agree.{Settled}
use Rattle.used_fields.proofs.are_unused_zero.Reads as are_unused_zero

pub are_unused_zero_settled : Settled are_unused_zero.Post
are_unused_zero_settled l given r r' left left' p q = p ∙ sym q
