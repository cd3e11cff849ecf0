-- Nothing is left open: two answers that meet a function's contract, as its source states it, are the same.
use mathlib.Core.Path.{sym, ◌∙◌}
use Rattle.ground.specs.Agree.{Settled}
use Rattle.characters.proofs.word_of.Reads as word_of
use Rattle.characters.proofs.true_bits.Reads as true_bits
use Rattle.characters.proofs.is_nibble.Reads as is_nibble_lem

pub word_of_settled : Settled word_of.Post
word_of_settled l given r r' left left' p q = p ∙ sym q

pub true_bits_settled : Settled true_bits.Post
true_bits_settled l given r r' left left' p q = p ∙ sym q

pub is_nibble_settled : Settled is_nibble_lem.Post
is_nibble_settled l given r r' left left' p q = p ∙ sym q
