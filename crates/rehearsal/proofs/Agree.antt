-- Nothing is left open: two answers that meet a function's contract, as its source states it, are the same, and so is what they leave.
use mathlib.Core.Path.{sym, ◌∙◌}
use Rattle.ground.specs.Agree.{Settled, SettledIn}
use Rattle.rehearsal.proofs.rehearse.Reads as rehearse

pub rehearse_settled : Settled rehearse.Post
rehearse_settled l given r r' left left' p q = p.says ∙ sym q.says

pub rehearse_settled_out : SettledIn (λ l left. left.1.0.now) rehearse.Post
rehearse_settled_out l given r r' left left' p q = p.leaves ∙ sym q.leaves
