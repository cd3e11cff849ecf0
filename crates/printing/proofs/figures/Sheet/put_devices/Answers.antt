-- `put_devices` meets its contract: the loop keeps the lines of the devices so far laid from the first place on.
use mathlib.Core.Path.{◌≡◌, subst}
use Prim.Native.Nat.{ℕ}
use native.Mathlib.Omega.{arith}
use Rattle.printing.specs.Text.{first_lines}
use Rattle.printing.specs.Print.{Laid}
use Rattle.printing.proofs.Laying.{laid_nothing, laid_line}
use Rattle.printing.proofs.Lengths.{device_at, devices_most}
use Rattle.printing.proofs.figures.Sheet.put_devices.Goals as goal

pub loop-device-init : goal.loop-device-init
unfolding first_lines
loop-device-init c = laid_nothing _

pub put_device_if-requires : goal.put_device_if-requires
put_device_if-requires c =
    let now = c.loop-device in
    let standing = c.args.standing in
    omega (arith, now.invariant.stored.up, devices_most standing.write standing.letters now.device)

pub loop-device-preserved : goal.loop-device-preserved
loop-device-preserved c =
    let now = c.loop-device in
    let standing = c.args.standing in
    laid_line (device_at standing.write standing.letters) now.device now.invariant c.put_device_if.ensures

pub returns : goal.returns
returns c =
    let now = c.loop-device in
    let a = c.args in
    let all : now.device ≡ 32 = omega arith in
    subst (λ (k : ℕ). Laid a.self.now (first_lines (device_at a.standing.write a.standing.letters) k) now.self) all now.invariant
