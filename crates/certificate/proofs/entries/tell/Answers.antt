-- `tell` meets its contract: what was told and what is left make up the whole, and in the end nothing is left.
use mathlib.Core.Path.{sym, ◌∙◌}
use Rattle.jobs.proofs.Entries.{parts}
use Rattle.certificate.proofs.Telling.{going_first, going_on, going_less, room_left, all_told}
use Rattle.certificate.proofs.entries.tell.Goals as goal

pub loop-told-init : goal.loop-told-init
loop-told-init c = let a = c.args in going_first a.job.header a.job.file.now a.job.good a.job.stands a.numbers.now _ c.begin.result c.requires c.first.ensures c.begin.ensures

pub tell_entry-told-requires : goal.tell_entry-told-requires
tell_entry-told-requires c =
    let a = c.args in
    let at = c.loop-told in
    (c.loop-told-test.true, at.invariant.good, room_left a.job.header a.job.file.now at.numbers at.numbers at.told at.told (parts a.job.file.now a.job.good).size c.loop-told-test.true at.invariant)

pub loop-told-smaller : goal.loop-told-smaller
loop-told-smaller c =
    let a = c.args in
    let at = c.loop-told in
    going_less a.job.header a.job.file.now at.numbers _ at.told c.tell_entry-told.result (parts a.job.file.now a.job.good).size c.loop-told-test.true at.invariant c.tell_entry-told.ensures

pub loop-told-preserved : goal.loop-told-preserved
loop-told-preserved c =
    let a = c.args in
    let at = c.loop-told in
    going_on a.job.header a.job.file.now at.numbers _ at.told c.tell_entry-told.result (parts a.job.file.now a.job.good).size c.loop-told-test.true at.invariant c.tell_entry-told.ensures

pub shape_of-numbers : goal.shape_of-numbers
shape_of-numbers c = c.loop-told.invariant.room ∙ sym c.requires

pub returns : goal.returns
returns c =
    let a = c.args in
    let at = c.loop-told in
    all_told a.job.header a.job.file.now at.numbers at.told a.job.stands (parts a.job.file.now a.job.good).size c.loop-told-test.false at.invariant
