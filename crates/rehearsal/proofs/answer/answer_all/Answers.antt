-- `answer_all` meets its contract: 32 devices' registers are room enough for the header's n.
use mathlib.Core.Path.{ap, ◌∙◌}
use native.Mathlib.Omega.{arith}
use Prim.Native.Nat.{ℕ}
use lib.ListN.{length-take, length-replicate}
use Rattle.jobs.specs.Rules.{good_header}
use Rattle.jobs.proofs.Entries.{parts, header_most}
use Rattle.rehearsal.proofs.answer.answer_all.Goals as goal

pub slice_bounds-memory-end : goal.slice_bounds-memory-end
slice_bounds-memory-end c =
    let a = c.args in
    omega (arith, header_most a.job.header (ap good_header a.job.stands ∙ (parts a.job.file.now a.job.good).header), length-replicate {A = ℕ} 8192 0)

pub slice_bounds-answer_from_power_on-end : goal.slice_bounds-answer_from_power_on-end
slice_bounds-answer_from_power_on-end c =
    let a = c.args in
    simp length-take (omega (arith, header_most a.job.header (ap good_header a.job.stands ∙ (parts a.job.file.now a.job.good).header), length-replicate {A = ℕ} 8192 0))

pub answer_from_power_on-requires : goal.answer_from_power_on-requires
answer_from_power_on-requires c =
    let a = c.args in
    let most = header_most a.job.header (ap good_header a.job.stands ∙ (parts a.job.file.now a.job.good).header) in
    (c.requires, simp length-take (omega (arith, most, length-replicate {A = ℕ} 8192 0)))
