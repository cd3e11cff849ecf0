-- One character (document 01, "The line"): a word of 16 bits. Bit 0 is the start bit (0), bits 1 to 8 the eight data bits, lowest
-- first, bit 9 even parity over data and parity bit, bits 10 and 11 the stop bits (1). Bits 12 to 15 are 0.
use Rattle.std.specs.Prelude.{ℕ, zero, suc, ◌+◌, ◌*◌, ◌/◌, ◌%◌, ◌^◌}

-- bit k of a word
abbrev pub bit : ℕ → ℕ → ℕ
bit zero w = w % 2
bit (suc k) w = w / 2 ^ suc k % 2

-- the parity bit of eight data bits: 1 where an odd number of them is set
abbrev pub parity_bit : ℕ → ℕ
parity_bit d = (bit 0 d + bit 1 d + bit 2 d + bit 3 d + bit 4 d + bit 5 d + bit 6 d + bit 7 d) % 2

-- the word that carries eight data bits
unfoldable pub word_of : ℕ → ℕ
word_of d = d * 2 + parity_bit d * 2 ^ 9 + 2 ^ 10 + 2 ^ 11

-- Preamble: data 15h, word E2Ah. Stop character: data 54h, word EA8h.
abbrev pub preamble : ℕ
preamble = 0xE2A

abbrev pub stop : ℕ
stop = 0xEA8
