-- Nothing is left open: two answers that meet the contract, as its source states it, are the same.
use mathlib.Core.Path.{sym, ◌∙◌}
use Rattle.ground.specs.Agree.{Settled}
use Rattle.listening.proofs.listen.Reads as listen

pub listen_settled : Settled listen.Post
listen_settled l given r r' left left' p q = p ∙ sym q
