-- `take_in_all` meets its contract: what is left of the bytes, taken in from here, always comes to the same.
use mathlib.Core.Path.{◌≡◌}
use lib.ListN.{drop}
use Rattle.remainder.specs.Register.{run}
use Rattle.pec.specs.Pec.{byte_step}
use Rattle.pec.proofs.take_in_all.Given as goal

abbrev pub invariant-loop-byte : goal.invariant-loop-byte
invariant-loop-byte l = run byte_step l.crc (drop l.byte-index l.bytes) ≡ run byte_step l.initial.crc l.bytes
