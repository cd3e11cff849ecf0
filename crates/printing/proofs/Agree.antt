-- Nothing is left open: two answers that meet a function's contract, as its source states it, are the same, and so is the text they leave.
use mathlib.Core.Path.{sym, ◌∙◌}
use Rattle.ground.specs.Agree.{Settled, SettledIn}
use Rattle.printing.proofs.print.Reads as print
use Rattle.printing.proofs.PrintRefusalTurnedAway.number.Reads as number
use Rattle.printing.proofs.FileRefusalFromPrintRefusal.from.Reads as from

pub print_settled : Settled print.Post
print_settled l given r r' left left' p q = p.says ∙ sym q.says

-- the lent text
pub print_settled_text : SettledIn (λ l left. left.1.1.1.1.0.now) print.Post
print_settled_text l given r r' left left' p q = p.leaves ∙ sym q.leaves

pub number_settled : Settled number.Post
number_settled l given r r' left left' p q = p ∙ sym q

pub from_settled : Settled from.Post
from_settled l given r r' left left' p q = p ∙ sym q
