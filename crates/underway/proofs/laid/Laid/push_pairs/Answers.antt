-- `push_pairs` meets its contract: the loop keeps the pairs so far laid behind what stood.
use Rattle.std.proofs.Common.{arith}
use Rattle.std.proofs.lemmas.Grind.{common_steps}
use Rattle.questions.specs.Bytes.{fill_pairs}
use Rattle.underway.proofs.Laying.{pairs_next}
use Rattle.underway.proofs.laid.Laid.push_pairs.Goals as goal

pub loop-i-init : goal.loop-i-init
unfolding fill_pairs
loop-i-init c = grind (arith, common_steps)

pub loop-i-preserved : goal.loop-i-preserved
loop-i-preserved c = grind (arith, common_steps, pairs_next c.loop-i.i)
