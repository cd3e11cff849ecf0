-- Nothing is left open: two answers that meet a function's contract, as its source states it, are the same.
use mathlib.Core.Path.{sym, ap, ◌∙◌}
use Prim.Native.Nat.{ℕ}
use Rattle.ground.specs.Agree.{Settled}
use Rattle.jobs.proofs.entry.is_good_entry.Reads as is_good_entry
use Rattle.jobs.proofs.entry.size_in.Reads as size_in
use Rattle.jobs.proofs.head_size.Reads as head_size
use Rattle.jobs.proofs.first.Reads as first
use Rattle.jobs.proofs.field_size.Reads as field_size
use Rattle.jobs.proofs.next_entry.Reads as next_entry
use Rattle.jobs.proofs.NoJobTurnedAway.number.Reads as no_job_number
use Rattle.jobs.proofs.FileRefusalTurnedAway.number.Reads as file_number
use Rattle.jobs.proofs.FileRefusalFromNoJob.from.Reads as from

pub is_good_entry_settled : Settled is_good_entry.Post
is_good_entry_settled l given r r' left left' p q = p ∙ sym q

pub size_in_settled : Settled size_in.Post
size_in_settled l given r r' left left' p q = p ∙ sym q

pub head_size_settled : Settled head_size.Post
head_size_settled l given r r' left left' p q = p ∙ sym q

pub first_settled : Settled first.Post
first_settled l given r r' left left' p q = ap (λ (k : ℕ). record { at = k }) (p ∙ sym q)

pub field_size_settled : Settled field_size.Post
field_size_settled l given r r' left left' p q = p ∙ sym q

pub next_entry_settled : Settled next_entry.Post
next_entry_settled l given r r' left left' p q = p ∙ sym q

pub no_job_number_settled : Settled no_job_number.Post
no_job_number_settled l given r r' left left' p q = p ∙ sym q

pub file_number_settled : Settled file_number.Post
file_number_settled l given r r' left left' p q = p ∙ sym q

pub from_settled : Settled from.Post
from_settled l given r r' left left' p q = p ∙ sym q
