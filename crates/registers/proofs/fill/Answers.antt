-- `fill` meets its contract: the loop keeps the words passed at power-on's figures, and all else as it was.
use mathlib.Core.Path.{◌≡◌, ap, ◌∙◌}
use mathlib.Core.List.{List}
use Prim.Native.Nat.{ℕ}
use native.Mathlib.Omega.{arith}
use lib.ListN.{length, set}
use lib.Seq.{sets}
use Rattle.ground.specs.Sweep.{tabulated}
use Rattle.ground.proofs.Lists.{filled_next, filled_whole}
use Rattle.registers.specs.Memory.{fresh}
use Rattle.registers.proofs.fill.Goals as goal

pub loop-i-preserved : goal.loop-i-preserved
loop-i-preserved c =
    let at = c.loop-i in
    ap (set at.memory at.i) c.figure_of.ensures ∙ ap (λ (l : List ℕ). set l at.i (fresh at.i)) at.invariant ∙ filled_next fresh c.args.memory.now at.i

pub returns : goal.returns
returns c =
    let at = c.loop-i in
    let memory₀ = c.args.memory.now in
    let all : at.i ≡ length memory₀ = omega arith in
    at.invariant ∙ ap (λ (n : ℕ). sets memory₀ 0 (tabulated fresh n 0)) all ∙ filled_whole fresh memory₀
