-- `put_devices` meets its contract: the loop keeps the lines of the devices so far laid from the first place on.
use Rattle.printing.specs.Text.{first_lines}
use Rattle.printing.specs.Print.{Laid}
use Rattle.printing.proofs.Lengths.{device_at}
use Rattle.printing.proofs.figures.Sheet.put_devices.Given as goal

abbrev pub invariant-loop-device : goal.invariant-loop-device
invariant-loop-device l = Laid l.initial.self (first_lines (device_at l.standing.write l.standing.letters) l.device) l.self
