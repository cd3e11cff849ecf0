-- `store` meets its contract: the loop keeps the bytes so far in their places, and what lies beyond the end is not stored.
use mathlib.Core.Path.{sym, ap, ◌∙◌}
use mathlib.Core.List.{List}
use Prim.Native.Nat.{ℕ, ◌+◌}
use native.Mathlib.Omega.{arith}
use lib.ListN.{get_or, set, length-set}
use Rattle.packing.proofs.Storing.{all_beyond, stored_next, stored_all}
use Rattle.packing.proofs.store.Goals as goal

pub returns-then-out-at : goal.returns-then-out-at
returns-then-out-at c = let a = c.args in sym (all_beyond a.out.now a.at a.bytes.now c.if-out-at.true)

pub loop-i-preserved : goal.loop-i-preserved
loop-i-preserved c =
    let at = c.loop-i in
    let a = c.args in
    let byte = get_or a.bytes.now at.i 0 in (
      omega (arith, c.min-fitting.ensures),
      length-set at.out (a.at + at.i) byte ∙ at.invariant.1,
      ap (λ (l : List ℕ). set l (a.at + at.i) byte) at.invariant.2 ∙ stored_next a.out.now a.at a.bytes.now at.i (omega (arith, c.min-fitting.ensures)),
    )

pub returns : goal.returns
returns c =
    let at = c.loop-i in
    let a = c.args in
    at.invariant.2 ∙ stored_all a.out.now a.at a.bytes.now at.i at.invariant.0 (omega (arith, c.min-fitting.ensures, c.loop-i-test.false))
