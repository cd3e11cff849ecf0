-- `are_good_entries` meets its contract: what is left from here decides as the whole does.
use mathlib.Core.Path.{◌≡◌}
use lib.ListN.{length, drop}
use Rattle.jobs.specs.Format.{head_size}
use Rattle.jobs.specs.Check.{good_entries}
use Rattle.opening.proofs.are_good_entries.Given as goal

abbrev pub invariant-loop-rest : goal.invariant-loop-rest
invariant-loop-rest l = good_entries l.header l.rest ≡ good_entries l.header (drop head_size l.file)

abbrev pub decreases-loop-rest : goal.decreases-loop-rest
decreases-loop-rest l = length l.rest
