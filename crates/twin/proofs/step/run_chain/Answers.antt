-- `run_chain` meets its contract: the span from device 0 to the last is the whole chain.
use Rattle.twin.proofs.Span.{as_chain}
use Rattle.twin.proofs.step.run_chain.Goals as goal

pub returns : goal.returns
returns c = as_chain _ _ _ _ _ _ _ c.run_span.ensures
