-- Nothing is left open: two answers that meet a function's contract, as its source states it, are the same, and so is what two such
-- calls leave in lent memory.
use mathlib.Core.Path.{sym, ◌∙◌}
use Rattle.ground.specs.Agree.{Settled, SettledIn}
use Rattle.writing.proofs.put_line.Reads as put_line
use Rattle.writing.proofs.NoRoomTurnedAway.number.Reads as number

pub put_line_settled : Settled put_line.Post
put_line_settled l given r r' left left' p q = p.says ∙ sym q.says

-- the lent words
pub put_line_settled_out : SettledIn (λ l left. left.1.0.now) put_line.Post
put_line_settled_out l given r r' left left' p q = p.leaves ∙ sym q.leaves

pub number_settled : Settled number.Post
number_settled l given r r' left left' p q = p ∙ sym q
