-- Nothing is left open: two answers that meet the contract of `take_up`, as its source states it, are the same, and so is the line they leave.
use Rattle.std.proofs.Common.{sym, ◌∙◌}
use Rattle.ground.specs.Agree.{Settled, SettledIn}
use Rattle.underway.proofs.take_up.Reads as take_up

pub take_up_settled : Settled take_up.Post
take_up_settled l given r r' left left' p q = p.says ∙ sym q.says

-- the lent line
pub take_up_settled_line : SettledIn (λ l left. left.1.1.1.1.0.now) take_up.Post
take_up_settled_line l given r r' left left' p q = p.leaves ∙ sym q.leaves
