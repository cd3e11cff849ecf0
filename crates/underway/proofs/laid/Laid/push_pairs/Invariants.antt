-- `push_pairs` meets its contract: the loop keeps the pairs so far laid behind what stood.
use Rattle.std.proofs.Common.{◌≡◌, ◌+◌, ◌*◌, ◌++◌, take}
use Rattle.questions.specs.Bytes.{fill_pairs}
use Rattle.underway.proofs.laid.Laid.push_pairs.Given as goal

abbrev pub invariant-loop-i : goal.invariant-loop-i
invariant-loop-i l = take (l.at + 2 * l.i) l.self-inside.bytes ≡ l.fn.self ++ fill_pairs l.i
