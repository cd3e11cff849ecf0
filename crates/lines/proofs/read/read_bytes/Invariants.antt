-- `read_bytes` meets its contract: the loop keeps the places passed at the line's bytes, and all else as it was.
use mathlib.Core.Path.{◌≡◌}
use Prim.Native.Nat.{◌-◌, ◌≤◌, min}
use lib.ListN.{length}
use lib.Seq.{sets}
use Rattle.ground.specs.Sweep.{tabulated}
use Rattle.lines.specs.Line.{byte_at}
use Rattle.lines.proofs.Line.{byte_count}
use Rattle.lines.proofs.read.read_bytes.Given as goal

abbrev pub invariant-loop-k : goal.invariant-loop-k
invariant-loop-k l =
    (l.many ≡ min (byte_count l.line) (length l.initial.out)) × (l.k ≤ l.many) × (l.out ≡ sets l.initial.out 0 (tabulated (byte_at l.line) l.k 0)) × (length l.out ≡ length l.initial.out)

abbrev pub decreases-loop-k : goal.decreases-loop-k
decreases-loop-k l = l.many - l.k
