-- Nothing is left open: two answers that meet a function's contract, as its source states it, are the same.
use mathlib.Core.Path.{sym, ◌∙◌}
use Rattle.ground.specs.Agree.{Settled}
use Rattle.c_parts.proofs.part_bytes.Reads as part_bytes

pub part_bytes_settled : Settled part_bytes.Post
part_bytes_settled l given r r' left left' p q = p ∙ sym q
