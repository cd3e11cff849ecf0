-- Nothing is left open: two answers that meet a function's contract, as its source states it, are the same.
use Rattle.std.proofs.Common.{sym, ◌∙◌}
use Rattle.ground.specs.Agree.{Settled}
use Rattle.contents.proofs.judge_bytes.Reads as judge_bytes

pub judge_bytes_settled : Settled judge_bytes.Post
judge_bytes_settled l given r r' left left' p q = p ∙ sym q
