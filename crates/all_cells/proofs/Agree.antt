-- Nothing is left open: two answers that meet the function's contract, as its source states it, are the same.
use mathlib.Core.Path.{sym, ◌∙◌}
use Rattle.ground.specs.Agree.{Settled}
use Rattle.all_cells.proofs.read_cells.Reads as read_cells

pub read_cells_settled : Settled read_cells.Post
read_cells_settled l given r r' left left' p q = p ∙ sym q
