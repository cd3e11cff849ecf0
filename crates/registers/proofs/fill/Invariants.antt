-- `fill` meets its contract: the loop keeps the words passed at power-on's figures, and all else as it was.
use mathlib.Core.Path.{◌≡◌}
use lib.Seq.{sets}
use Rattle.ground.specs.Sweep.{tabulated}
use Rattle.registers.specs.Memory.{fresh}
use Rattle.registers.proofs.fill.Given as goal

abbrev pub invariant-loop-i : goal.invariant-loop-i
invariant-loop-i l = l.memory ≡ sets l.initial.memory 0 (tabulated fresh l.i 0)
