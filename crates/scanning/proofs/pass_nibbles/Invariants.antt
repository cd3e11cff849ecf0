-- `pass_nibbles` meets its contract: no place so far fails, and a block that passes adds none.
use mathlib.Core.Path.{◌≡◌}
use Prim.Native.Nat.{◌-◌, ◌≤◌}
use Rattle.characters.specs.Nibble.{is_nibble}
use Rattle.scanning.specs.Along.{failing_along}
use Rattle.std.specs.Prelude.{None}
use Rattle.scanning.proofs.pass_nibbles.Given as goal

abbrev pub invariant-loop-i : goal.invariant-loop-i
invariant-loop-i l = (l.from ≤ l.i) × (l.i ≤ l.to) × (failing_along is_nibble l.line l.from (l.i - l.from) ≡ None)

abbrev pub decreases-loop-i : goal.decreases-loop-i
decreases-loop-i l = l.to - l.i
