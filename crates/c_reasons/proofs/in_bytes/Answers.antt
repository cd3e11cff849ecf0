-- `in_bytes` meets its contract: an accepted line has nothing to be counted.
use mathlib.Core.Path.{sym, ap, ◌∙◌}
use Rattle.std.specs.Prelude.{Err}
use Rattle.c_reasons.specs.Explain.{in_bytes}
use Rattle.c_reasons.proofs.in_bytes.Goals as goal

pub returns-in-Err : goal.returns-in-Err
returns-in-Err c =
    let a = c.args in
    ap Err c.counted_in.ensures ∙ sym (ap (in_bytes a.q a.bytes) c.in-Err.is)
