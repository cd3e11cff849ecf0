-- `unpack` meets its contract: the loop keeps the words so far at the front of those that have room.
use mathlib.Core.Path.{◌≡◌}
use lib.Seq.{sets}
use Rattle.ground.specs.Sweep.{tabulated}
use Rattle.packing.specs.Words.{word_at}
use Rattle.packing.proofs.unpack.Given as goal

abbrev pub invariant-loop-k : goal.invariant-loop-k
invariant-loop-k l = l.word-items ≡ sets l.initial.word-items 0 (tabulated (word_at l.bytes) l.k 0)
