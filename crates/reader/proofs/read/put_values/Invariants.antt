-- `put_values` meets its contract: the loop keeps the values passed at the front of the output, and all else as it was.
use mathlib.Core.Path.{◌≡◌}
use Prim.Native.Nat.{ℕ}
use lib.ListN.{length, get_or}
use lib.Seq.{sets}
use Rattle.ground.specs.Sweep.{tabulated}
use Rattle.reader.specs.Read.{values_in}
use Rattle.reader.proofs.read.put_values.Given as goal

abbrev pub invariant-loop-k : goal.invariant-loop-k
invariant-loop-k l =
    (l.out ≡ sets l.initial.out 0 (tabulated (λ (i : ℕ). get_or (values_in l.bytes l.m) i 0) l.k 0)) × (length l.out ≡ length l.initial.out)
