-- `is_covered` meets its contract: each arm is the entry of its kind.
use mathlib.Core.Logic.{⊎_elim}
use Rattle.questions.specs.Question.{covers}
use Rattle.questions.proofs.ByKind.{asked}
use Rattle.questions.proofs.question.is_covered.Goals as goal

pub returns-in-HelloAll : goal.returns-in-HelloAll
unfolding covers
returns-in-HelloAll c = asked c.args.q.kind _ _ _ _ _ c.asks.ensures c.in-HelloAll.is

pub returns-in-WriteAll : goal.returns-in-WriteAll
unfolding covers
returns-in-WriteAll c = ⊎_elim (λ e. asked c.args.q.kind _ _ _ _ _ c.asks.ensures e) (λ e. asked c.args.q.kind _ _ _ _ _ c.asks.ensures e) c.in-WriteAll.is

pub returns-in-WriteDevice : goal.returns-in-WriteDevice
unfolding covers
returns-in-WriteDevice c = ⊎_elim (λ e. asked c.args.q.kind _ _ _ _ _ c.asks.ensures e) (λ e. asked c.args.q.kind _ _ _ _ _ c.asks.ensures e) c.in-WriteDevice.is
