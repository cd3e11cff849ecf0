-- `read_off` meets its contract: the values that the verdict carries are put out, and there are none where it turned the bytes away.
use mathlib.Core.Path.{ap, ◌∙◌}
use Prim.Native.Nat.{ℕ}
use native.Mathlib.Omega.{arith}
use Rattle.lines.specs.Write.{at_front}
use Rattle.readings.specs.Reading.{values_taken}
use Rattle.reader.specs.Read.{values_in}
use Rattle.reader.proofs.read.read_off.Goals as goal

pub put_values-requires : goal.put_values-requires
put_values-requires c =
    let count = c.values_taken.ensures ∙ ap values_taken c.judge_bytes-reading.ensures in
    let pre = c.requires in
    (omega (arith, count, pre.0), omega (arith, count, pre.1))

pub returns : goal.returns
returns c =
    let a = c.args in
    let verdict = c.judge_bytes-reading.ensures in
    let count = c.values_taken.ensures ∙ ap values_taken verdict in
    record {
      says = verdict;
      leaves = c.put_values.ensures ∙ ap (λ (m : ℕ). at_front (values_in a.bytes.now m) a.out.now) count;
    }
