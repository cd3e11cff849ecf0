-- Nothing is left open: two answers that meet the function's contract, as its source states it, are the same.
use mathlib.Core.Path.{sym, ◌∙◌}
use Rattle.ground.specs.Agree.{Settled}
use Rattle.opening.proofs.«open».Reads as open_file

pub open_settled : Settled open_file.Post
open_settled l given r r' left left' p q = p ∙ sym q
