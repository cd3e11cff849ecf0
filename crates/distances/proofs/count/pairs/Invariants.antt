-- The count is at most 520 for each bit passed.
use Rattle.std.proofs.Common.{◌≤◌, ◌*◌}
use Rattle.distances.proofs.count.pairs.Given as goal

abbrev pub invariant-loop-i : goal.invariant-loop-i
invariant-loop-i l = l.count ≤ 520 * l.i
