-- `answer_entries` meets its contract: what stands in the output, with the answers that are left behind it, is the whole.
use mathlib.Core.Path.{ap, ◌∙◌}
use Prim.Native.Nat.{ℕ}
use native.Mathlib.Omega.{arith}
use Rattle.jobs.proofs.Sizes.{field_bounds}
use Rattle.registers.specs.Memory.{is_chain}
use Rattle.rehearsal.specs.declared.Places.{Places}
use Rattle.rehearsal.proofs.Answering.{going_first, going_on, low_place, all_answered}
use Rattle.rehearsal.proofs.answer.answer_entries.Goals as goal

pub loop-places-init : goal.loop-places-init
loop-places-init c = let a = c.args in going_first a.job.header a.job.file.now a.memory.now a.out.now c.requires _ c.first-start.ensures

pub answer_entry-places-requires : goal.answer_entry-places-requires
answer_entry-places-requires c =
    let a = c.args in
    let at = c.loop-places in (
      c.loop-places-test.true,
      at.invariant.counts.good,
      ap (λ (n : ℕ). is_chain a.job.header.n n) at.invariant.chain ∙ c.requires.chain,
      low_place a.job.header a.job.file.now a.memory.now a.out.now at.memory at.memory at.out at.out at.places at.places c.loop-places-test.true at.invariant c.requires,
    )

pub loop-places-smaller : goal.loop-places-smaller
loop-places-smaller c = omega (arith, ap (λ (p : Places). p.at) c.answer_entry-places.ensures.places, c.loop-places-test.true, (field_bounds c.args.job.header.version).0)

pub loop-places-preserved : goal.loop-places-preserved
loop-places-preserved c =
    let a = c.args in
    let at = c.loop-places in
    going_on a.job.header a.job.file.now a.memory.now a.out.now at.memory _ at.out _ at.places c.answer_entry-places.result c.loop-places-test.true at.invariant c.answer_entry-places.ensures c.answer_entry-places.auto.memory

pub shape_of-memory : goal.shape_of-memory
shape_of-memory c = c.loop-places.invariant.chain

pub shape_of-out : goal.shape_of-out
shape_of-out c = c.loop-places.invariant.room

pub returns : goal.returns
returns c =
    let a = c.args in
    let at = c.loop-places in
    all_answered a.job.header a.job.file.now a.memory.now a.out.now at.memory at.out at.places c.loop-places-test.false at.invariant
