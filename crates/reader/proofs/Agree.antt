-- Nothing is left open: two answers that meet a function's contract, as its source states it, are the same, and so is what two such
-- calls leave in lent memory.
use mathlib.Core.Path.{sym, ◌∙◌}
use Rattle.ground.specs.Agree.{Settled, SettledIn}
use Rattle.reader.proofs.read.read.Reads as read

pub read_settled : Settled read.Post
read_settled l given r r' left left' p q = p.says ∙ sym q.says

-- the output
pub read_settled_out : SettledIn (λ l left. left.1.1.0.now) read.Post
read_settled_out l given r r' left left' p q = p.leaves ∙ sym q.leaves
