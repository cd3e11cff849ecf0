-- `pack` meets its contract: the loop keeps the bytes of the words so far at the front.
use mathlib.Core.Path.{◌≡◌}
use lib.ListN.{take}
use lib.Seq.{sets}
use Rattle.packing.specs.Words.{as_bytes}
use Rattle.packing.proofs.pack.Given as goal

abbrev pub invariant-loop-k : goal.invariant-loop-k
invariant-loop-k l = l.out ≡ sets l.initial.out 0 (as_bytes (take l.k l.words))
