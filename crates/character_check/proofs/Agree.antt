-- Nothing is left open: two answers that meet a function's contract, as its source states it, are the same.
use mathlib.Core.Path.{sym, ◌∙◌}
use Rattle.ground.specs.Agree.{Settled}
use Rattle.character_check.proofs.check.Reads as check
use Rattle.character_check.proofs.is_character.Reads as is_character

pub check_settled : Settled check.Post
check_settled l given r r' left left' p q = p ∙ sym q

pub is_character_settled : Settled is_character.Post
is_character_settled l given r r' left left' p q = p ∙ sym q
