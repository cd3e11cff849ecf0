-- `shape_of` meets its contract: each arm is the entry of its kind.
use Rattle.questions.specs.Shape.{shape_of}
use Rattle.questions.proofs.ByKind.{asked}
use Rattle.questions.proofs.question.shape_of.Goals as goal

pub returns-in-HelloAll : goal.returns-in-HelloAll
unfolding shape_of
returns-in-HelloAll c = asked c.args.q.kind _ _ _ _ _ c.asks.ensures c.in-HelloAll.is

pub returns-in-WriteAll : goal.returns-in-WriteAll
unfolding shape_of
returns-in-WriteAll c = asked c.args.q.kind _ _ _ _ _ c.asks.ensures c.in-WriteAll.is

pub returns-in-WriteDevice : goal.returns-in-WriteDevice
unfolding shape_of
returns-in-WriteDevice c = asked c.args.q.kind _ _ _ _ _ c.asks.ensures c.in-WriteDevice.is

pub returns-in-ReadAll : goal.returns-in-ReadAll
unfolding shape_of
returns-in-ReadAll c = asked c.args.q.kind _ _ _ _ _ c.asks.ensures c.in-ReadAll.is

pub returns-in-ReadDevice : goal.returns-in-ReadDevice
unfolding shape_of
returns-in-ReadDevice c = asked c.args.q.kind _ _ _ _ _ c.asks.ensures c.in-ReadDevice.is
