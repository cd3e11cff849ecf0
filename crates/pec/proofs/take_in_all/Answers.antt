-- `take_in_all` meets its contract: what is left of the bytes, taken in from here, always comes to the same.
use mathlib.Core.Path.{sym, ap, ◌∙◌}
use Prim.Native.Nat.{ℕ, ◌+◌}
use lib.ListN.{drop}
use Rattle.remainder.specs.Register.{run}
use Rattle.remainder.proofs.Run.{run_next, run_end}
use Rattle.pec.specs.Pec.{byte_step}
use Rattle.pec.proofs.take_in_all.Goals as goal

pub loop-byte-preserved : goal.loop-byte-preserved
loop-byte-preserved c =
    let l = c.args.bytes.now in
    let at = c.loop-byte in
    ap (λ (crc : ℕ). run byte_step crc (drop (at.byte-index + 1) l)) c.take_in-crc.ensures
    ∙ sym (run_next byte_step at.crc l at.byte-index c.loop-byte-test.true) ∙ at.invariant

pub returns : goal.returns
returns c =
    let at = c.loop-byte in
    sym (run_end byte_step at.crc c.args.bytes.now at.byte-index c.loop-byte-test.false) ∙ at.invariant
