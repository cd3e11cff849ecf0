-- Nothing is left open: two answers that meet a contract, as the source states it, are the same, and so is what they leave.
use mathlib.Core.Path.{sym, ◌∙◌}
use Rattle.ground.specs.Agree.{Settled, SettledIn}
use Rattle.c_cells.proofs.cell_into.Reads as cell_into
use Rattle.c_cells.proofs.cells_into.Reads as cells_into

pub cell_into_settled : Settled cell_into.Post
cell_into_settled l given r r' left left' p q = p.says ∙ sym q.says

-- the two lent numbers
pub cell_into_settled_microvolts : SettledIn (λ l left. left.1.1.1.1.0.now) cell_into.Post
cell_into_settled_microvolts l given r r' left left' p q = p.microvolts ∙ sym q.microvolts

pub cell_into_settled_volts : SettledIn (λ l left. left.1.1.1.1.1.0.now) cell_into.Post
cell_into_settled_volts l given r r' left left' p q = p.volts ∙ sym q.volts

pub cells_into_settled : Settled cells_into.Post
cells_into_settled l given r r' left left' p q = p.says ∙ sym q.says

-- the three lent memories
pub cells_into_settled_microvolts : SettledIn (λ l left. left.1.1.1.0.now) cells_into.Post
cells_into_settled_microvolts l given r r' left left' p q = p.microvolts ∙ sym q.microvolts

pub cells_into_settled_volts : SettledIn (λ l left. left.1.1.1.1.0.now) cells_into.Post
cells_into_settled_volts l given r r' left left' p q = p.volts ∙ sym q.volts

pub cells_into_settled_answers : SettledIn (λ l left. left.1.1.1.1.1.0.now) cells_into.Post
cells_into_settled_answers l given r r' left left' p q = p.answers ∙ sym q.answers
