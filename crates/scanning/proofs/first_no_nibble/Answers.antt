-- `first_no_nibble` meets its contract: it scans the places between the ends, of which a line of one word or none has none.
use mathlib.Core.Path.{◌≡◌, sym, ap, ◌∙◌}
use Prim.Native.Nat.{◌-◌}
use native.Mathlib.Omega.{arith}
use lib.ListN.{length}
use Rattle.characters.specs.Nibble.{is_nibble}
use Rattle.scanning.specs.Along.{failing_along}
use Rattle.scanning.proofs.FirstPlace.{skipped, nibbles_along}
use Rattle.scanning.proofs.first_no_nibble.Goals as goal

pub returns-then-line-lt2 : goal.returns-then-line-lt2
unfolding failing_along
returns-then-line-lt2 c =
    let l = c.args.line.now in
    let none : length l - 2 ≡ 0 = omega arith in
    sym (nibbles_along l ∙ ap (failing_along is_nibble l 1) none)

pub returns : goal.returns
returns c =
    let l = c.args.line.now in
    let over = c.pass_nibbles-from.ensures in
    let between : length l - 1 - 1 ≡ length l - 2 = omega arith in
    c.first_failing.ensures is_nibble (λ w r h e. e) ∙ skipped is_nibble l 1 c.pass_nibbles-from.result (length l - 1) over.0 over.1 over.2
    ∙ ap (failing_along is_nibble l 1) between ∙ sym (nibbles_along l)
