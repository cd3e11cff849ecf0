-- `join_nibbles` meets its contract: the loop keeps the places passed at their two nibbles' bytes, and passes them all.
use mathlib.Core.Path.{◌≡◌, refl, ap, ap₂, ◌∙◌}
use mathlib.Core.List.{List}
use Prim.Native.Nat.{ℕ}
use native.Mathlib.Omega.{arith}
use lib.ListN.{length, set, length-set}
use lib.Seq.{sets}
use Rattle.ground.specs.Sweep.{tabulated}
use Rattle.ground.proofs.Lists.{filled_next, filled_whole}
use Rattle.lines.proofs.read.join_nibbles.Invariants.{of_nibbles}
use Rattle.lines.proofs.read.join_nibbles.Goals as goal

pub loop-k-init : goal.loop-k-init
loop-k-init c = (omega arith, refl, refl)

pub joined-requires : goal.joined-requires
joined-requires c = let small = c.requires.1 in (small _, small _)

pub loop-k-preserved : goal.loop-k-preserved
loop-k-preserved c =
    let a = c.args in
    let at = c.loop-k in (
      omega arith,
      ap₂ (λ (l : List ℕ) (b : ℕ). set l at.k b) at.invariant.1 c.joined.ensures ∙ filled_next (of_nibbles a.nibbles.now) a.out.now at.k,
      length-set at.out at.k c.joined.result ∙ at.invariant.2,
    )

pub shape_of-out : goal.shape_of-out
shape_of-out c = c.loop-k.invariant.2

pub returns : goal.returns
returns c =
    let a = c.args in
    let at = c.loop-k in
    let all : at.k ≡ length a.out.now = omega arith in
    at.invariant.1 ∙ ap (λ (n : ℕ). sets a.out.now 0 (tabulated (of_nibbles a.nibbles.now) n 0)) all ∙ filled_whole (of_nibbles a.nibbles.now) a.out.now
