-- `part_start` meets its contract: none where no values are carried or the device is not put to; else the place of its characters, inside the line.
use mathlib.Core.Path.{sym, ap, ap₂, ◌∙◌}
use Prim.Native.Nat.{ℕ, ◌+◌, ◌-◌, ◌*◌, ◌≤◌, ◌<◌}
use native.Mathlib.Omega.{arith}
use Rattle.std.specs.Prelude.{Some}
use Rattle.parts.specs.Part.{values_found}
use Rattle.parts.proofs.Part.{inside, no_place, place_not_put_to, place_there}
use Rattle.contents.proofs.RowLaws.{positive}
use Rattle.parts.proofs.part_start.Goals as goal

-- what is known once the device's order is: few values, and the order below them
there : (c : goal.After-order_of-k)
    → (c.values_found-m.result ≤ 32) × (c.order_of-k.result < c.values_found-m.result)
there c =
    let a = c.args in
    let m = c.values_found-m in
    let put_to = c.is_covered in
    let at =
    inside a.q a.line.now a.device (omega (arith, m.ensures, positive m.result c.if-m-eq0.false))
    (sym put_to.ensures ∙ c.if-not-is_covered.false) in
    (omega (arith, m.ensures, at.few), omega (arith, m.ensures, c.order_of-k.ensures, at.order))

pub returns-then-m-eq0 : goal.returns-then-m-eq0
returns-then-m-eq0 c =
    let a = c.args in
    no_place a.q a.line.now a.device (sym c.values_found-m.ensures ∙ c.if-m-eq0.true)

pub returns-then-not-is_covered : goal.returns-then-not-is_covered
returns-then-not-is_covered c =
    let a = c.args in
    let put_to = c.is_covered in
    place_not_put_to a.q a.line.now a.device (sym put_to.ensures ∙ c.if-not-is_covered.true)

pub overflow_sub-result-2 : goal.overflow_sub-result-2
overflow_sub-result-2 c = omega (arith, there c)

pub overflow_mul-result : goal.overflow_mul-result
overflow_mul-result c = omega (arith, there c)

pub overflow_add-result : goal.overflow_add-result
overflow_add-result c = omega (arith, there c)

pub returns : goal.returns
returns c =
    let a = c.args in
    let m = c.values_found-m in
    let put_to = c.is_covered in
    let some : 0 < values_found a.q a.line.now = omega (arith, m.ensures, positive m.result c.if-m-eq0.false) in
    let covered = sym put_to.ensures ∙ c.if-not-is_covered.false in
    ap Some (ap₂ (λ (m k : ℕ). 5 + 4 * (m - 1 - k)) m.ensures c.order_of-k.ensures ∙ sym (inside a.q a.line.now a.device some covered).start)
    ∙ place_there a.q a.line.now a.device some covered
