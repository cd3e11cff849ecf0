-- `all_nibbles` meets its contract: it looks at the places between the ends, of which a line of one word or none has none.
use mathlib.Core.Path.{◌≡◌, sym, ap, ◌∙◌}
use Prim.Native.Nat.{◌-◌}
use native.Mathlib.Omega.{arith}
use lib.ListN.{length}
use Rattle.characters.specs.Nibble.{is_nibble}
use Rattle.scanning.specs.Place.{is_nowhere, all_nibbles}
use Rattle.scanning.specs.Along.{failing_along}
use Rattle.scanning.proofs.FirstPlace.{nibbles_along}
use Rattle.scanning.proofs.all_nibbles.Goals as goal

pub returns-then-line-lt2 : goal.returns-then-line-lt2
unfolding all_nibbles failing_along
returns-then-line-lt2 c =
    let l = c.args.line.now in
    let none : length l - 2 ≡ 0 = omega arith in
    sym (ap is_nowhere (nibbles_along l ∙ ap (failing_along is_nibble l 1) none))

pub returns : goal.returns
unfolding all_nibbles
returns c =
    let l = c.args.line.now in
    let between : length l - 1 - 1 ≡ length l - 2 = omega arith in
    c.are_nibbles.ensures ∙ ap is_nowhere (ap (failing_along is_nibble l 1) between ∙ sym (nibbles_along l))
