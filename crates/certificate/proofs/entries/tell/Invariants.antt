-- `tell` meets its contract: what was told and what is left make up the whole, and in the end nothing is left.
use Prim.Native.Nat.{◌-◌}
use lib.ListN.{length}
use Rattle.certificate.proofs.Telling.{Going}
use Rattle.certificate.proofs.entries.tell.Given as goal

abbrev pub invariant-loop-told : goal.invariant-loop-told
invariant-loop-told l = Going l.job.header l.job.file.now l.numbers l.told

abbrev pub decreases-loop-told : goal.decreases-loop-told
decreases-loop-told l = length l.job.file.now - l.told.at
