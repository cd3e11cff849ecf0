-- Nothing is left open: two answers that meet a function's contract, as its source states it, are the same, and so is what they leave.
use mathlib.Core.Path.{sym, ◌∙◌}
use Rattle.ground.specs.Agree.{Settled, SettledIn}
use Rattle.twin.proofs.step.step.Reads as step
use Rattle.twin.proofs.step.run_span.Reads as run_span
use Rattle.twin.proofs.step.run_chain.Reads as run_chain
use Rattle.twin.proofs.step.StepRefusalTurnedAway.number.Reads as number

pub step_settled : Settled step.Post
step_settled l given r r' left left' p q = p.says ∙ sym q.says

-- the lent memory, and the lent output
pub step_settled_memory : SettledIn (λ l left. left.1.1.0.now) step.Post
step_settled_memory l given r r' left left' p q = p.remembers ∙ sym q.remembers

pub step_settled_out : SettledIn (λ l left. left.1.1.1.1.0.now) step.Post
step_settled_out l given r r' left left' p q = p.leaves ∙ sym q.leaves

pub run_span_settled : Settled run_span.Post
run_span_settled l given r r' left left' p q = p.says ∙ sym q.says

pub run_span_settled_memory : SettledIn (λ l left. left.1.1.1.0.now) run_span.Post
run_span_settled_memory l given r r' left left' p q = p.remembers ∙ sym q.remembers

pub run_span_settled_out : SettledIn (λ l left. left.1.1.1.1.1.0.now) run_span.Post
run_span_settled_out l given r r' left left' p q = p.leaves ∙ sym q.leaves

pub run_chain_settled : Settled run_chain.Post
run_chain_settled l given r r' left left' p q = p.says ∙ sym q.says

pub run_chain_settled_memory : SettledIn (λ l left. left.1.0.now) run_chain.Post
run_chain_settled_memory l given r r' left left' p q = p.remembers ∙ sym q.remembers

pub run_chain_settled_out : SettledIn (λ l left. left.1.1.1.0.now) run_chain.Post
run_chain_settled_out l given r r' left left' p q = p.leaves ∙ sym q.leaves

pub number_settled : Settled number.Post
number_settled l given r r' left left' p q = p ∙ sym q
