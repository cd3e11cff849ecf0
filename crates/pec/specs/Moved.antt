-- What four bytes of 0 make of a state. The code brings bytes four places apart together by it; no public contract speaks of it.
use Rattle.std.specs.Prelude.{List, ℕ}
use Rattle.ground.specs.Sweep.{tabulated}
use Rattle.remainder.specs.Register.{times}
use Rattle.pec.specs.Pec.{bit_step}

unfoldable pub moved : ℕ → ℕ
moved crc = times 32 bit_step crc

-- of each of the 256 bytes
abbrev pub moved_table : List ℕ
moved_table = tabulated (times 32 bit_step) 256 0
