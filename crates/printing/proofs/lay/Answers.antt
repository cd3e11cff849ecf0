-- `lay` meets its contract: head, entries and devices, one behind the other.
use native.Mathlib.Omega.{arith}
use Rattle.std.proofs.Common.{rules}
use lib.ListN.{length}
use Rattle.printing.specs.Text.{certificate_text}
use Rattle.printing.proofs.Laying.{laid_then, laid_out}
use Rattle.printing.proofs.Lengths.{head_most, entries_most}
use Rattle.printing.proofs.lay.Goals as goal

pub put_entries-requires : goal.put_entries-requires
put_entries-requires c = let a = c.args in omega (arith, c.put_head.ensures.stored.up, head_most a.version a.n)

pub put_devices-requires : goal.put_devices-requires
put_devices-requires c =
    let a = c.args in
    omega (arith, c.put_head.ensures.stored.up, c.put_entries.ensures.stored.up, head_most a.version a.n, entries_most a.numbers.now (length a.numbers.now))

pub returns : goal.returns
unfolding certificate_text
returns c =
    let all = laid_then c.put_head.ensures (laid_then c.put_entries.ensures c.put_devices.ensures) in
    laid_out all (search rules)
