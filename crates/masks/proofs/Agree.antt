-- Nothing is left open: two answers that meet a function's contract, as its source states it, are the same.
use mathlib.Core.Path.{sym, ◌∙◌}
use Rattle.ground.specs.Agree.{Settled}
use Rattle.masks.proofs.is_write.Reads as is_write
use Rattle.masks.proofs.mask_of.Reads as mask_of
use Rattle.masks.proofs.is_good_mask.Reads as is_good_mask

pub is_write_settled : Settled is_write.Post
is_write_settled l given r r' left left' p q = p ∙ sym q

pub mask_of_settled : Settled mask_of.Post
mask_of_settled l given r r' left left' p q = p ∙ sym q

pub is_good_mask_settled : Settled is_good_mask.Post
is_good_mask_settled l given r r' left left' p q = p ∙ sym q
