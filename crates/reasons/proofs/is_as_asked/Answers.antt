-- `is_as_asked` meets its contract: the byte is held to the one that was asked.
use Rattle.std.proofs.Common.{eqb, ap₂}
use Rattle.reasons.proofs.is_as_asked.Goals as goal

pub returns : goal.returns
returns c = ap₂ eqb c.byte_at.ensures c.asked_byte.ensures
