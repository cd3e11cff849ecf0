-- EVERY FILE GETS ITS ANSWER, and nothing is left open: two answers that meet a function's contract, as its source states it, are the same,
-- and so is the text they leave.
use mathlib.Core.Path.{sym, ◌∙◌}
use Rattle.ground.specs.Agree.{Settled, SettledIn}
use Rattle.certificate.proofs.certify.Reads as certify

pub certify_settled : Settled certify.Post
certify_settled l given r r' left left' p q = p.says ∙ sym q.says

pub certify_settled_text : SettledIn (λ l left. left.1.0.now) certify.Post
certify_settled_text l given r r' left left' p q = p.leaves ∙ sym q.leaves
