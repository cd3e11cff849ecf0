-- `first_failing` meets its contract: what `find` passed over has passed, and what it found has not.
use mathlib.Core.Path.{◌≡◌}
use mathlib.Core.Bool.{true, false}
use lib.ListN.{get_or}
use Rattle.std.proofs.Common.{rules, tests}
use Rattle.std.proofs.lemmas.Iterator.{first_from_Range}
use Rattle.scanning.proofs.FirstPlace.{found_first}
use Rattle.scanning.proofs.first_failing.Goals as goal

pub returns : goal.returns
returns g c = λ test tells.
    let a = c.args in
    let l = a.line.now in
    found_first test l a.from a.to c.find.result
    (first_from_Range _ _ _ _ (λ i. test (get_or l i 0) ≡ false) (λ i. test (get_or l i 0) ≡ true) c.find.ensures.ran
    (λ x q k. search (rules, tests, tells (get_or l x 0) false (c.type_inv.line x).fits))
    (λ x q k. (search rules, search (rules, tests, tells (get_or l x 0) true (c.type_inv.line x).fits))))
