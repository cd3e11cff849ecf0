-- `push_carried` meets its contract: the loop keeps the line's bytes so far laid behind what stood.
use Rattle.std.proofs.Common.{◌≡◌, ◌+◌, ◌++◌, take}
use Rattle.ground.specs.Sweep.{tabulated}
use Rattle.lines.specs.Line.{byte_at}
use Rattle.underway.proofs.laid.Laid.push_carried.Given as goal

abbrev pub invariant-loop-i : goal.invariant-loop-i
invariant-loop-i l = take (l.at + l.i) l.self-inside.bytes ≡ l.fn.self ++ tabulated (byte_at l.line) l.i 2
