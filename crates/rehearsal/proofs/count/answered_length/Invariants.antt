-- `answered_length` meets its contract: what is counted and what is left make up the whole.
use Prim.Native.Nat.{◌-◌}
use lib.ListN.{length}
use Rattle.rehearsal.proofs.Counting.{Counting}
use Rattle.rehearsal.proofs.count.answered_length.Given as goal

abbrev pub invariant-loop-places : goal.invariant-loop-places
invariant-loop-places l = Counting l.job.header l.job.file.now l.places

abbrev pub decreases-loop-places : goal.decreases-loop-places
decreases-loop-places l = length l.job.file.now - l.places.at
