-- `pec_before` meets its contract: what is left to take in, taken in from here, gives the PEC of them all.
use Rattle.std.proofs.Common.{◌≡◌, ℕ, ◌-◌, List}
use Rattle.ground.specs.Sweep.{tabulated}
use Rattle.remainder.specs.Register.{run}
use Rattle.pec.specs.Pec.{byte_step, pec_of}
use Rattle.lines.specs.Line.{byte_at}
use Rattle.reasons.proofs.pec_before.Given as goal

-- the bytes from a place on taken in, so many of them
unfoldable pub left : List ℕ → (i n crc : ℕ) → ℕ
left line i n crc = run byte_step crc (tabulated (byte_at line) n i)

abbrev pub invariant-loop-i : goal.invariant-loop-i
invariant-loop-i l = left l.line l.i (l.end - l.i) l.crc ≡ pec_of (tabulated (byte_at l.line) l.end 0)
