-- `answer_entries` meets its contract: what stands in the output, with the answers that are left behind it, is the whole.
use Prim.Native.Nat.{◌-◌}
use lib.ListN.{length}
use Rattle.rehearsal.proofs.Answering.{Going}
use Rattle.rehearsal.proofs.answer.answer_entries.Given as goal

abbrev pub invariant-loop-places : goal.invariant-loop-places
invariant-loop-places l = Going l.job.header l.job.file.now l.initial.memory l.initial.out l.memory l.out l.places

abbrev pub decreases-loop-places : goal.decreases-loop-places
decreases-loop-places l = length l.job.file.now - l.places.at
