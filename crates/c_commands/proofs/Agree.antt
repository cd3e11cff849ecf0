-- Nothing is left open: two answers that meet the contract, as the source states it, are the same, and so is what they leave.
use mathlib.Core.Path.{sym, ◌∙◌}
use Rattle.ground.specs.Agree.{Settled, SettledIn}
use Rattle.c_commands.proofs.command_bytes.Reads as command_bytes

pub command_bytes_settled : Settled command_bytes.Post
command_bytes_settled l given r r' left left' p q = p.says ∙ sym q.says

-- the lent bytes
pub command_bytes_settled_out : SettledIn (λ l left. left.1.0.now) command_bytes.Post
command_bytes_settled_out l given r r' left left' p q = p.leaves ∙ sym q.leaves
