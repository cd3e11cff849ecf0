-- `put_nibbles` meets its contract: the loop keeps the places passed at their words' nibbles, and passes them all.
use mathlib.Core.Path.{◌≡◌}
use Prim.Native.Nat.{◌≤◌}
use lib.ListN.{length}
use lib.Seq.{sets}
use Rattle.ground.specs.Sweep.{tabulated}
use Rattle.lines.specs.Nibbles.{nibble_in}
use Rattle.lines.proofs.read.put_nibbles.Given as goal

abbrev pub invariant-loop-k : goal.invariant-loop-k
invariant-loop-k l = (l.k ≤ length l.words) × (l.out ≡ sets l.initial.out 0 (tabulated (nibble_in l.words) l.k 0)) × (length l.out ≡ length l.initial.out)
