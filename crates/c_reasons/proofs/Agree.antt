-- Nothing is left open: two answers that meet a function's contract, as its source states it, are the same.
use mathlib.Core.Path.{sym, ◌∙◌}
use Rattle.ground.specs.Agree.{Settled}
use Rattle.c_reasons.proofs.explain_bytes.Reads as explain_bytes
use Rattle.c_reasons.proofs.explain_packed.Reads as explain_packed

pub explain_bytes_settled : Settled explain_bytes.Post
explain_bytes_settled l given r r' left left' p q = p ∙ sym q

pub explain_packed_settled : Settled explain_packed.Post
explain_packed_settled l given r r' left left' p q = p ∙ sym q
