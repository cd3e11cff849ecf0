-- `answered_length` meets its contract: what is counted and what is left make up the whole.
use mathlib.Core.Path.{sym, subst}
use native.Mathlib.Omega.{arith}
use Rattle.jobs.proofs.Sizes.{field_bounds}
use Rattle.jobs.proofs.Entries.{parts}
use Rattle.rehearsal.specs.declared.Places.{Places}
use Rattle.rehearsal.proofs.Counting.{Counting, counting_first, counting_on, counted}
use mathlib.Core.Path.{ap}
use Rattle.rehearsal.proofs.count.answered_length.Goals as goal

pub loop-places-init : goal.loop-places-init
loop-places-init c = counting_first c.args.job.header c.args.job.file.now c.args.job.good c.args.job.stands _ c.first-start.ensures

pub count_entry-places-requires : goal.count_entry-places-requires
count_entry-places-requires c = (c.loop-places-test.true, c.loop-places.invariant.good, c.loop-places.invariant.slow, (parts c.args.job.file.now c.args.job.good).size)

pub loop-places-smaller : goal.loop-places-smaller
loop-places-smaller c = omega (arith, ap (λ (p : Places). p.at) c.count_entry-places.ensures, c.loop-places-test.true, (field_bounds c.args.job.header.version).0)

pub loop-places-preserved : goal.loop-places-preserved
loop-places-preserved c =
    let a = c.args in
    let at = c.loop-places in
    subst (Counting a.job.header a.job.file.now) (sym c.count_entry-places.ensures) (counting_on a.job.header a.job.file.now at.places c.loop-places-test.true at.invariant)

pub returns : goal.returns
returns c = counted c.args.job.header c.args.job.file.now c.loop-places.places c.args.job.stands c.loop-places-test.false c.loop-places.invariant
