-- The packet error check, PEC (data sheet 004, "PEC Errors" with Figure 69; document 01, "The line").
-- What a reader must believe of it: the polynomial's constant, one bit, one byte, a list of bytes; and which table document 01 means.
use Rattle.std.specs.Prelude.{cond, List, ℕ, ◌/◌, ◌%◌, eqb}
use Rattle.std.specs.Int.Bits.{bit_xor}
use Rattle.ground.specs.Sweep.{tabulated}
use Rattle.remainder.specs.Register.{times, run}

-- POLY = &HB2: x^8 + x^6 + x^3 + x^2 + 1, bits lowest first
abbrev pub poly : ℕ
poly = 0xB2

-- If (CRCByte AND &H01) = 1 Then CRCByte = (CRCByte / 2) XOR POLY, else CRCByte = CRCByte / 2
unfoldable pub bit_step : ℕ → ℕ
bit_step crc = cond (eqb (crc % 2) 1) (bit_xor (crc / 2) poly) (crc / 2)

-- CRCByte = CRCByte XOR the byte, then eight bits
unfoldable pub byte_step : ℕ → ℕ → ℕ
byte_step crc byte = times 8 bit_step (bit_xor crc byte)

-- The PEC of some bytes: each of them in its turn, from 0.
unfoldable pub pec_of : List ℕ → ℕ
pec_of bytes = run byte_step 0 bytes

-- the remainder of each of the 256 bytes, as the table that document 01 asks for: eight bits of each
abbrev pub remainder_table : List ℕ
remainder_table = tabulated (times 8 bit_step) 256 0
