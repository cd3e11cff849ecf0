-- Which of the four checks of a character a word fails first (document 02, M-102).
use Rattle.std.specs.Prelude.{Bool, true, false, ℕ, Result, Ok, Err}
use Rattle.character_check.specs.Check.{high_bits_clear, started, stopped, even_parity}
use Rattle.character_check.specs.declared.Fault.{Fault}
use Rattle.character_check.specs.declared.Fault.TheVariants.{HighBits, Start, Stop, Parity}

-- a test that is not passed names its fault, and none behind it is looked at
abbrev pub unless : (passed : Bool) → Fault → (later : Result (Unit {0}) Fault) → Result (Unit {0}) Fault
unless true fault later = later
unless false fault later = Err fault

-- the check: high bits, start, stop, parity, the first in that order
unfoldable pub checked_of : ℕ → Result (Unit {0}) Fault
checked_of w =
    unless (high_bits_clear w) HighBits
    (unless (started w) Start
    (unless (stopped w) Stop
    (unless (even_parity w) Parity (Ok tt))))
