-- `push_all` meets its contract: the loop keeps the bytes so far laid behind what stood.
use Rattle.std.proofs.Common.{◌≡◌, ◌+◌, ◌++◌, take}
use Rattle.underway.proofs.laid.Laid.push_all.Given as goal

abbrev pub invariant-loop-i : goal.invariant-loop-i
invariant-loop-i l = take (l.at + l.i) l.self-inside.bytes ≡ l.fn.self ++ take l.i l.more
