-- Nothing is left open: two answers that meet a function's contract, as its source states it, are the same.
use mathlib.Core.Path.{◌≡◌, sym, ◌∙◌}
use Rattle.ground.specs.Agree.{Settled}
use Rattle.parts.proofs.register_part.Reads as register_part
use Rattle.parts.proofs.part_start.Reads as part_start

-- of a part that is handed back, the words in it
pub register_part_settled : (l : _) (given : _) (r r' : _) (left left' : _) → register_part.Post l given r left → register_part.Post l given r' left' → r.now ≡ r'.now
register_part_settled l given r r' left left' p q = p ∙ sym q

pub part_start_settled : Settled part_start.Post
part_start_settled l given r r' left left' p q = p ∙ sym q
