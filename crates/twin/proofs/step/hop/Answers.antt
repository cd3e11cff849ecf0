-- `hop` meets its contract: the device steps on its own registers, and what changes of them is stored.
use native.Mathlib.Omega.{arith}
use mathlib.Core.Path.{◌≡◌, ap, ◌∙◌}
use mathlib.Core.List.{List, ◌++◌}
use Prim.Native.Nat.{ℕ, ◌+◌, ◌-◌, ◌*◌}
use lib.ListN.{take, drop}
use Rattle.passage.specs.Acting.{handed_on}
use Rattle.twin.specs.Step.{with_change}
use Rattle.twin.proofs.step.hop.Goals as goal

pub returns : goal.returns
returns c =
    let a = c.args in
    let line = take a.words a.out.now in
    let all : 256 * a.device + 256 - 256 * a.device ≡ 256 = omega arith in
    record {
      remembers = c.keep.ensures ∙ ap (with_change a.memory.now a.device) c.pass-change.ensures.says;
      leaves = ap (λ (l : List ℕ). l ++ drop a.words a.out.now) (c.pass-change.ensures.leaves
          ∙ ap (λ (k : ℕ). handed_on a.n a.device line (take k (drop (256 * a.device) a.memory.now))) all);
    }
