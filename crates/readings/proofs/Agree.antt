-- Nothing is left open: two answers that meet a function's contract, as its source states it, are the same.
use mathlib.Core.Path.{sym, ◌∙◌}
use Rattle.ground.specs.Agree.{Settled}
use Rattle.readings.proofs.RefusalTurnedAway.number.Reads as number
use Rattle.readings.proofs.place_of.Reads as place_of
use Rattle.readings.proofs.byte_of.Reads as byte_of
use Rattle.readings.proofs.count_of.Reads as count_of
use Rattle.readings.proofs.values_taken.Reads as values_taken
use Rattle.readings.proofs.packed_reading.Reads as packed_reading

pub place_of_settled : Settled place_of.Post
place_of_settled l given r r' left left' p q = p ∙ sym q

pub byte_of_settled : Settled byte_of.Post
byte_of_settled l given r r' left left' p q = p ∙ sym q

pub count_of_settled : Settled count_of.Post
count_of_settled l given r r' left left' p q = p ∙ sym q

pub values_taken_settled : Settled values_taken.Post
values_taken_settled l given r r' left left' p q = p ∙ sym q

pub packed_reading_settled : Settled packed_reading.Post
packed_reading_settled l given r r' left left' p q = p ∙ sym q

pub number_settled : Settled number.Post
number_settled l given r r' left left' p q = p ∙ sym q
