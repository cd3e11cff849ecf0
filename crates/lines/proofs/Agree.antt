-- Nothing is left open: two calls that meet a function's contract, as its source states it, answer the same and leave the same in the lent memory.
use mathlib.Core.Path.{sym, ◌∙◌}
use Rattle.ground.specs.Agree.{Settled, SettledIn}
use Rattle.lines.proofs.read.byte_at.Reads as byte_at
use Rattle.lines.proofs.read.read_bytes.Reads as read_bytes

pub byte_at_settled : Settled byte_at.Post
byte_at_settled l given r r' left left' p q = p ∙ sym q

pub read_bytes_settled_out : SettledIn (λ l left. left.1.0.now) read_bytes.Post
read_bytes_settled_out l given r r' left left' p q = p ∙ sym q
