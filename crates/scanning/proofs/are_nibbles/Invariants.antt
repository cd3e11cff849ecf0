-- `are_nibbles` meets its contract: the marks so far, with what is left from here, always answer as the whole does.
use mathlib.Core.Path.{◌≡◌}
use Prim.Native.Nat.{◌-◌}
use Rattle.characters.specs.Nibble.{is_nibble}
use Rattle.scanning.specs.Place.{is_nowhere}
use Rattle.scanning.specs.Along.{failing_along}
use Rattle.scanning.proofs.Marks.{unmarked}
use Rattle.scanning.proofs.are_nibbles.Given as goal

abbrev pub invariant-loop-i : goal.invariant-loop-i
invariant-loop-i l = unmarked is_nibble l.line l.bad l.i l.to ≡ is_nowhere (failing_along is_nibble l.line l.from (l.to - l.from))
