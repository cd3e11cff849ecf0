-- `explain_packed` meets its contract: the reason of the bytes, packed.
use mathlib.Core.Path.{ap, ◌∙◌}
use Rattle.c_reasons.specs.Explain.{packed_reason}
use Rattle.c_reasons.proofs.explain_packed.Goals as goal

pub returns : goal.returns
returns c = c.packed_reason.ensures ∙ ap packed_reason c.explain_bytes-reason.ensures
