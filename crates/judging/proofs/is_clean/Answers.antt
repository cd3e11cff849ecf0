-- `is_clean` meets its contract: the framing, then the words between.
use mathlib.Core.Path.{sym, ap, ◌∙◌}
use mathlib.Core.Bool.{Bool, ◌&&◌}
use Rattle.scanning.specs.Place.{all_nibbles}
use Rattle.judging.specs.Clean.{is_clean}
use Rattle.judging.proofs.is_clean.Goals as goal

pub returns-then-not-is_framed : goal.returns-then-not-is_framed
unfolding is_clean
returns-then-not-is_framed c =
    let line = c.args.line.now in
    sym (ap (λ (t : Bool). t && all_nibbles line) (sym c.is_framed.ensures ∙ c.if-not-is_framed.true))

pub returns : goal.returns
unfolding is_clean
returns c =
    let line = c.args.line.now in
    c.all_nibbles.ensures
    ∙ sym (ap (λ (t : Bool). t && all_nibbles line) (sym c.is_framed.ensures ∙ c.if-not-is_framed.false))
