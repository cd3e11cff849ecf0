-- `counted_in` meets its contract: only the line as a whole is told otherwise.
use mathlib.Core.Path.{sym, ap, ◌∙◌}
use Rattle.c_reasons.specs.Explain.{counted_in}
use Rattle.c_reasons.proofs.counted_in.Goals as goal

pub returns-in-Whole : goal.returns-in-Whole
returns-in-Whole c =
    let a = c.args in
    c.whole_in_bytes.ensures ∙ sym (ap (counted_in a.q a.bytes a.b) c.in-Whole.is)
