-- `switch_on` meets its contract: the loop keeps the devices so far at power-on's figures, and those of n devices are the whole memory.
use mathlib.Core.Path.{◌≡◌}
use lib.Seq.{sets}
use Rattle.packing.specs.Words.{as_bytes}
use Rattle.registers.specs.Memory.{power_on_memory}
use Rattle.c_twin.proofs.switch_on.Given as goal

abbrev pub invariant-loop-device : goal.invariant-loop-device
invariant-loop-device l = l.memory ≡ sets l.initial.memory 0 (as_bytes (power_on_memory l.device))
