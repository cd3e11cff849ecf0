-- Nothing is left open: two answers that meet a function's contract, as its source states it, are the same, and so is what they leave.
use mathlib.Core.Path.{sym, ◌∙◌}
use Rattle.ground.specs.Agree.{Settled, SettledIn}
use Rattle.c_twin.proofs.power_on_bytes.Reads as power_on_bytes
use Rattle.c_twin.proofs.step_bytes.Reads as step_bytes
use Rattle.c_twin.proofs.run_bytes.Reads as run_bytes

pub power_on_bytes_settled : Settled power_on_bytes.Post
power_on_bytes_settled l given r r' left left' p q = p.says ∙ sym q.says

-- the lent memory
pub power_on_bytes_settled_memory : SettledIn (λ l left. left.1.0.now) power_on_bytes.Post
power_on_bytes_settled_memory l given r r' left left' p q = p.leaves ∙ sym q.leaves

pub step_bytes_settled : Settled step_bytes.Post
step_bytes_settled l given r r' left left' p q = p.says ∙ sym q.says

-- the lent memory, and the lent output
pub step_bytes_settled_memory : SettledIn (λ l left. left.1.1.0.now) step_bytes.Post
step_bytes_settled_memory l given r r' left left' p q = p.remembers ∙ sym q.remembers

pub step_bytes_settled_out : SettledIn (λ l left. left.1.1.1.1.0.now) step_bytes.Post
step_bytes_settled_out l given r r' left left' p q = p.leaves ∙ sym q.leaves

pub run_bytes_settled : Settled run_bytes.Post
run_bytes_settled l given r r' left left' p q = p.says ∙ sym q.says

pub run_bytes_settled_memory : SettledIn (λ l left. left.1.0.now) run_bytes.Post
run_bytes_settled_memory l given r r' left left' p q = p.remembers ∙ sym q.remembers

pub run_bytes_settled_out : SettledIn (λ l left. left.1.1.1.0.now) run_bytes.Post
run_bytes_settled_out l given r r' left left' p q = p.leaves ∙ sym q.leaves
