-- `push_carried` meets its contract: the loop keeps the line's bytes so far laid behind what stood.
use Rattle.std.proofs.Common.{arith}
use Rattle.std.proofs.lemmas.Grind.{common_steps}
use Rattle.ground.proofs.Lists.{tabulated_next}
use Rattle.lines.specs.Line.{byte_at}
use Rattle.underway.proofs.laid.Laid.push_carried.Goals as goal

pub loop-i-preserved : goal.loop-i-preserved
loop-i-preserved c = grind (arith, common_steps, tabulated_next (byte_at c.args.line.now) c.loop-i.i 2)
