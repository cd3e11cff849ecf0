-- Nothing is left open: two answers that meet a function's contract, as its source states it, are the same.
use mathlib.Core.Path.{sym, ◌∙◌}
use Rattle.ground.specs.Agree.{Settled}
use Rattle.scanning.proofs.first_no_character.Reads as first_no_character
use Rattle.scanning.proofs.is_framed.Reads as is_framed
use Rattle.scanning.proofs.first_no_nibble.Reads as first_no_nibble
use Rattle.scanning.proofs.all_nibbles.Reads as all_nibbles

pub first_no_character_settled : Settled first_no_character.Post
first_no_character_settled l given r r' left left' p q = p ∙ sym q

pub is_framed_settled : Settled is_framed.Post
is_framed_settled l given r r' left left' p q = p ∙ sym q

pub first_no_nibble_settled : Settled first_no_nibble.Post
first_no_nibble_settled l given r r' left left' p q = p ∙ sym q

pub all_nibbles_settled : Settled all_nibbles.Post
all_nibbles_settled l given r r' left left' p q = p ∙ sym q
