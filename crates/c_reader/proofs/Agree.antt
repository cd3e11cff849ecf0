-- Nothing is left open: two answers that meet the contract, as the source states it, are the same, and so is what they leave.
use mathlib.Core.Path.{sym, ◌∙◌}
use Rattle.ground.specs.Agree.{Settled, SettledIn}
use Rattle.c_reader.proofs.read_bytes.Reads as read_bytes

pub read_bytes_settled : Settled read_bytes.Post
read_bytes_settled l given r r' left left' p q = p.says ∙ sym q.says

pub read_bytes_settled_out : SettledIn (λ l left. left.1.1.0.now) read_bytes.Post
read_bytes_settled_out l given r r' left left' p q = p.leaves ∙ sym q.leaves
