-- Nothing is left open: two answers that meet a function's contract, as its source states it, are the same, whatever the kinds of value and refusal.
use mathlib.Core.Path.{sym, ◌∙◌}
use Rattle.ground.specs.Agree.{Settled}
use Rattle.numbers.proofs.number_of.Reads as number_of

pub number_of_settled : (T E : _) (t : _) (e : _) (number : _) (drops turned_away : _) → Settled (number_of.Post T E t e number drops turned_away)
number_of_settled T E t e number drops turned_away l given r r' left left' p q = p ∙ sym q
