-- Nothing is left open: two answers that meet a function's contract, as its source states it, are the same.
use mathlib.Core.Path.{sym, ◌∙◌}
use Rattle.ground.specs.Agree.{Settled}
use Rattle.letters.proofs.begin.Reads as begin
use Rattle.letters.proofs.hear.Reads as hear

pub begin_settled : Settled begin.Post
begin_settled l given r r' left left' p q = p ∙ sym q

pub hear_settled : Settled hear.Post
hear_settled l given r r' left left' p q = p ∙ sym q
