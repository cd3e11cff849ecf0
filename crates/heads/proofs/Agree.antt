-- Nothing is left open: two answers that meet the function's contract, as its source states it, are the same.
use mathlib.Core.Path.{◌≡◌, sym, ◌∙◌}
use Rattle.ground.specs.Agree.{Settled}
use Rattle.heads.proofs.head_of.Reads as head_of
use Rattle.heads.proofs.Head.taken.Reads as taken

pub head_of_settled : Settled head_of.Post
head_of_settled l given r r' left left' p q = p ∙ sym q

-- the bytes of the slice that comes back
pub taken_settled : (l : _) (given : _) (r r' : _) (left left' : _) → taken.Post l given r left → taken.Post l given r' left' → r.now ≡ r'.now
taken_settled l given r r' left left' p q = p ∙ sym q
