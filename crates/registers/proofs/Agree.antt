-- Nothing is left open: two answers that meet a function's contract, as its source states it, are the same, and so is what they leave.
use mathlib.Core.Path.{sym, ◌∙◌}
use Rattle.ground.specs.Agree.{Settled, SettledIn}
use Rattle.registers.proofs.is_chain.Reads as is_chain_lem
use Rattle.registers.proofs.power_on.Reads as power_on
use Rattle.registers.proofs.NoChainTurnedAway.number.Reads as number

-- whatever a device takes
pub is_chain_settled : (device fits : _) → Settled (is_chain_lem.Post device fits)
is_chain_settled device fits l given r r' left left' p q = p ∙ sym q

pub power_on_settled : Settled power_on.Post
power_on_settled l given r r' left left' p q = p.says ∙ sym q.says

-- the lent memory
pub power_on_settled_memory : SettledIn (λ l left. left.1.0.now) power_on.Post
power_on_settled_memory l given r r' left left' p q = p.leaves ∙ sym q.leaves

pub number_settled : Settled number.Post
number_settled l given r r' left left' p q = p ∙ sym q
