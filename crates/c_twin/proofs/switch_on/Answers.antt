-- `switch_on` meets its contract: the loop keeps the devices so far at power-on's figures, and those of n devices are the whole memory.
use mathlib.Core.Path.{◌≡◌, ap, ◌∙◌}
use mathlib.Core.List.{List}
use Prim.Native.Nat.{ℕ, ◌*◌}
use native.Mathlib.Omega.{arith}
use lib.ListN.{replicate, length-replicate}
use lib.Seq.{sets}
use Rattle.packing.specs.Words.{as_bytes}
use Rattle.registers.specs.Memory.{power_on_memory}
use Rattle.c_twin.proofs.PoweredBytes.{one_on, none_on, next_on, all_on}
use Rattle.c_twin.proofs.switch_on.Goals as goal

pub loop-device-init : goal.loop-device-init
loop-device-init c = none_on c.args.memory.now

pub loop-device-preserved : goal.loop-device-preserved
loop-device-preserved c =
    let a = c.args in
    let at = c.loop-device in
    let power_on = c.power_on in
    let words = power_on.new.memory in
    let one = one_on (replicate {A = ℕ} 256 0) words power_on.result power_on.ensures (length-replicate {A = ℕ} 256 0) in
    c.put_words.ensures ∙ ap (λ (m : List ℕ). sets m (2 * (256 * at.device)) (as_bytes words)) at.invariant ∙ next_on a.memory.now at.device words one

pub returns : goal.returns
returns c =
    let a = c.args in
    let at = c.loop-device in
    let all : at.device ≡ a.n = omega arith in
    at.invariant ∙ ap (λ (k : ℕ). sets a.memory.now 0 (as_bytes (power_on_memory k))) all ∙ all_on a.memory.now a.n c.requires
