-- The check of one character (document 01, row 4 of "Turned away"): start, stops, parity, and nothing above them.
use Rattle.std.specs.Prelude.{Bool, ◌&&◌, ℕ, ◌+◌, ◌/◌, ◌%◌, ◌^◌, eqb}
use Rattle.characters.specs.Character.{bit}

-- Bits 12 to 15 are 0.
abbrev pub high_bits_clear : ℕ → Bool
high_bits_clear w = eqb (w / 2 ^ 12) 0

-- the start bit (0)
abbrev pub started : ℕ → Bool
started w = eqb (bit 0 w) 0

-- the stop bits (1)
abbrev pub stopped : ℕ → Bool
stopped w = eqb (bit 10 w) 1 && eqb (bit 11 w) 1

-- even parity over data and parity bit
abbrev pub even_parity : ℕ → Bool
even_parity w =
    eqb
    ((bit 1 w + bit 2 w + bit 3 w + bit 4 w + bit 5 w + bit 6 w + bit 7 w + bit 8 w + bit 9 w) % 2)
    0

-- row 4, CHARACTER, is given where this is false
unfoldable pub is_character : ℕ → Bool
is_character w = high_bits_clear w && started w && stopped w && even_parity w
