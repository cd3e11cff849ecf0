-- `put_values` meets its contract: the loop keeps the values passed at the front of the output, and all else as it was.
use mathlib.Core.Path.{◌≡◌, refl, ap, ◌∙◌}
use mathlib.Core.List.{List}
use Prim.Native.Nat.{ℕ, ◌≤◌}
use native.Mathlib.Omega.{arith}
use lib.ListN.{length, get_or, set, length-set}
use lib.Seq.{sets}
use Rattle.ground.specs.Sweep.{tabulated}
use Rattle.ground.proofs.Lists.{sets_front, filled_next, tabulated_own}
use Rattle.reader.specs.Read.{values_in}
use Rattle.reader.proofs.Values.{values_number}
use Rattle.reader.proofs.read.put_values.Goals as goal

pub loop-k-init : goal.loop-k-init
loop-k-init c = (refl, refl)

pub loop-k-preserved : goal.loop-k-preserved
loop-k-preserved c =
    let a = c.args in
    let at = c.loop-k in
    let f : ℕ → ℕ = λ i. get_or (values_in a.bytes.now a.m) i 0 in (
      ap (set at.out at.k) c.value_in.ensures ∙ ap (λ (l : List ℕ). set l at.k (f at.k)) at.invariant.0
          ∙ filled_next f a.out.now at.k,
      length-set at.out at.k c.value_in.result ∙ at.invariant.1,
    )

pub shape_of-out : goal.shape_of-out
shape_of-out c = c.loop-k.invariant.1

pub returns : goal.returns
returns c =
    let a = c.args in
    let at = c.loop-k in
    let values = values_in a.bytes.now a.m in
    let number = values_number a.bytes.now a.m c.requires.0 in
    let all : at.k ≡ length values = omega (arith, number) in
    let room : length values ≤ length a.out.now = omega (arith, number, c.requires.1) in
    at.invariant.0 ∙ ap (λ (n : ℕ). sets a.out.now 0 (tabulated (λ (i : ℕ). get_or values i 0) n 0)) all
    ∙ ap (sets a.out.now 0) (tabulated_own values) ∙ sets_front values a.out.now room
