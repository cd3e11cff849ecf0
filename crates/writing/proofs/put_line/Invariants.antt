-- `put_line` meets its contract: the loop keeps the characters of the bytes passed stored behind the preamble, and all else as it was.
use mathlib.Core.Path.{◌≡◌}
use Prim.Native.Nat.{◌-◌, ◌≤◌}
use lib.ListN.{length}
use Rattle.writing.proofs.Stored.{so_far}
use Rattle.writing.proofs.put_line.Given as goal

abbrev pub invariant-loop-i : goal.invariant-loop-i
invariant-loop-i l = (l.i ≤ length l.bytes) × (l.out ≡ so_far l.bytes l.initial.out l.i) × (length l.out ≡ length l.initial.out)

abbrev pub decreases-loop-i : goal.decreases-loop-i
decreases-loop-i l = length l.bytes - l.i
