-- `give_all` meets its contract: after k turns the lent memories are as the first k cells leave them.
use mathlib.Core.Path.{◌≡◌, refl, ◌∙◌}
use native.Mathlib.Omega.{arith}
use lib.ListN.{length, length-set}
use Rattle.c_cells.specs.CellBytes.{microvolts_or, volts_or}
use Rattle.c_cells.specs.CellsBytes.{packed_or}
use Rattle.c_cells.proofs.ByCell.{one_more, all_done}
use Rattle.c_cells.proofs.give_all.Goals as goal

pub loop-k-init : goal.loop-k-init
loop-k-init c = (omega arith, refl, refl, refl, refl, refl, refl)

pub loop-k-preserved : goal.loop-k-preserved
loop-k-preserved c =
    let a = c.args in
    let at = c.loop-k in
    let twelve : length a.cells ≡ 12 = omega (arith, c.well_formed) in (
      omega arith,
      one_more microvolts_or a.cells a.microvolts.now at.k at.microvolts at.invariant.1 _ _ _ (omega arith) (omega arith) c.give.ensures.microvolts,
      one_more volts_or a.cells a.volts.now at.k at.volts at.invariant.2 _ _ _ (omega arith) (omega arith) c.give.ensures.volts,
      one_more packed_or a.cells a.answers.now at.k at.answers at.invariant.3 _ 0 _ (omega arith) (omega arith) c.give.ensures.says,
      length-set at.microvolts at.k _ ∙ at.invariant.4,
      length-set at.volts at.k _ ∙ at.invariant.5,
      length-set at.answers at.k _ ∙ at.invariant.6,
    )

pub returns : goal.returns
returns c =
    let a = c.args in
    let at = c.loop-k in
    let twelve : length a.cells ≡ at.k = omega (arith, c.well_formed) in (
      all_done microvolts_or a.cells a.microvolts.now at.k at.microvolts at.invariant.1 twelve,
      all_done volts_or a.cells a.volts.now at.k at.volts at.invariant.2 twelve,
      all_done packed_or a.cells a.answers.now at.k at.answers at.invariant.3 twelve,
    )
