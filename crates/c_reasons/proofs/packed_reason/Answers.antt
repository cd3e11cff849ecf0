-- `packed_reason` meets its contract: 0 is for accepted.
use mathlib.Core.Path.{sym, ap, ◌∙◌}
use Rattle.c_reasons.specs.Explain.{packed_reason}
use Rattle.c_reasons.proofs.packed_reason.Goals as goal

pub returns-in-Err : goal.returns-in-Err
returns-in-Err c = c.packed_because.ensures ∙ sym (ap packed_reason c.in-Err.is)
