-- The count is at most 520 times 520 for each bit passed.
use Rattle.std.proofs.Common.{◌≤◌, ◌*◌}
use Rattle.distances.proofs.count.triples.Given as goal

abbrev pub invariant-loop-i : goal.invariant-loop-i
invariant-loop-i l = l.count ≤ 520 * (520 * l.i)
