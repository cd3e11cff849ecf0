-- Nothing is left open: two answers that meet a function's contract, as its source states it, are the same, and so is what two such
-- calls leave in lent memory.
use mathlib.Core.Path.{sym, ◌∙◌}
use Rattle.ground.specs.Agree.{Settled, SettledIn}
use Rattle.commands.proofs.write_command.Reads as write_command
use Rattle.commands.proofs.CommandRefusalTurnedAway.number.Reads as number
use Rattle.commands.proofs.CommandRefusalFromNoRoom.from.Reads as from

pub write_command_settled : Settled write_command.Post
write_command_settled l given r r' left left' p q = p.says ∙ sym q.says

-- the lent words
pub write_command_settled_out : SettledIn (λ l left. left.1.0.now) write_command.Post
write_command_settled_out l given r r' left left' p q = p.leaves ∙ sym q.leaves

pub number_settled : Settled number.Post
number_settled l given r r' left left' p q = p ∙ sym q

pub from_settled : Settled from.Post
from_settled l given r r' left left' p q = p ∙ sym q
