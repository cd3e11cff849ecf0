-- Of the blank memory and of what is answered nothing is left open: two answers that meet the contract, as the source states it, are the same.
use mathlib.Core.Path.{◌≡◌, sym, ◌∙◌}
use Rattle.ground.specs.Agree.{Settled}
use Rattle.intake.proofs.job_memory.Reads as job_memory
use Rattle.intake.proofs.answer_in.Reads as answer_in

pub job_memory_settled : Settled job_memory.Post
job_memory_settled l given r r' left left' p q = p ∙ sym q

-- of a part that is handed back, the bytes in it
pub answer_in_settled : (l : _) (given : _) (r r' : _) (left left' : _) → answer_in.Post l given r left → answer_in.Post l given r' left' → r.now ≡ r'.now
answer_in_settled l given r r' left left' p q = p ∙ sym q
