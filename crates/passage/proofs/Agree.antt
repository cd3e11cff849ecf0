-- Nothing is left open: two answers that meet the contract of `pass`, as its source states it, are the same, and so is the line they leave.
use mathlib.Core.Path.{sym, ◌∙◌}
use Rattle.ground.specs.Agree.{Settled, SettledIn}
use Rattle.passage.proofs.pass.pass.Reads as pass

pub pass_settled : Settled pass.Post
pass_settled l given r r' left left' p q = p.says ∙ sym q.says

-- the lent line
pub pass_settled_line : SettledIn (λ l left. left.1.1.1.0.now) pass.Post
pass_settled_line l given r r' left left' p q = p.leaves ∙ sym q.leaves
