-- Nothing is left open: two answers that meet a function's contract, as its source states it, are the same.
use mathlib.Core.Path.{sym, ◌∙◌}
use Rattle.ground.specs.Agree.{Settled}
use Rattle.judging.proofs.screen.Reads as screen

pub screen_settled : Settled screen.Post
screen_settled l given r r' left left' p q = p ∙ sym q
