-- `store` meets its contract: the loop keeps the bytes so far in their places, and what lies beyond the end is not stored.
use mathlib.Core.Path.{◌≡◌}
use Prim.Native.Nat.{◌≤◌}
use lib.ListN.{length, take}
use lib.Seq.{sets}
use Rattle.packing.proofs.store.Given as goal

abbrev pub invariant-loop-i : goal.invariant-loop-i
invariant-loop-i l = (l.i ≤ length l.bytes) × (length l.out ≡ length l.initial.out) × (l.out ≡ sets l.initial.out l.at (take l.i l.bytes))
