-- `are_nibbles` meets its contract: the marks so far, with what is left from here, always answer as the whole does.
use mathlib.Core.Path.{refl, sym, ◌∙◌}
use Rattle.characters.specs.Nibble.{is_nibble}
use Rattle.scanning.proofs.Marks.{no_more, one_more}
use Rattle.scanning.proofs.are_nibbles.Goals as goal

pub loop-i-init : goal.loop-i-init
loop-i-init c = refl

pub loop-i-preserved : goal.loop-i-preserved
loop-i-preserved c =
    let a = c.args in
    let at = c.loop-i in
    one_more is_nibble a.line.now at.bad at.i a.to c.misfits-bad.result c.loop-i-test.true c.misfits-bad.ensures ∙ at.invariant

pub returns : goal.returns
returns c =
    let a = c.args in
    let at = c.loop-i in
    sym (no_more is_nibble a.line.now at.bad at.i a.to c.loop-i-test.false) ∙ at.invariant
