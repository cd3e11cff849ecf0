-- A reading as one number, as a program in C gets it (document 01, "The C side": how number, place and byte are packed).
use Rattle.std.specs.Prelude.{ℕ, Result, ◌+◌, ◌*◌, ◌%◌}
use Rattle.readings.specs.Reading.{number_of, place_of, byte_of, count_of, values_taken}
use Rattle.readings.specs.declared.Refusal.{Refusal}
use Rattle.readings.specs.declared.Taken.{Taken}

-- Bits 0 to 7 the number, 0 for accepted. Bits 8 to 15 the byte (CHECK, COUNT), or HELLOALL's count. Bits 16 to 31 the place (CHARACTER,
-- MANCHESTER), or how many values were written. No reading has both of a pair. Sixteen bits are more than any reading of a line needs: its place
-- is on a line of 140 words at most, and it hands out at most 32 values.
abbrev pub packed_reading : Result Taken Refusal → ℕ
packed_reading r = number_of r + 256 * (byte_of r + count_of r) + 65536 * ((place_of r + values_taken r) % 65536)
