-- The character of a nibble (document 01, "The line"): each bit is followed by its complement, lowest bit first.
use Rattle.std.specs.Prelude.{Bool, ℕ, zero, suc, ◌+◌, ◌*◌, eqb}
use Rattle.ground.specs.Sweep.{some}
use Rattle.characters.specs.Character.{bit, word_of}

-- the other bit
abbrev pub complement : ℕ → ℕ
complement zero = 1
complement (suc b) = 0

-- a bit, and its complement in the place after it
abbrev pub followed : ℕ → ℕ
followed b = b + 2 * complement b

-- the data bits of a nibble's character: nibble 0 is AAh, 1 is A9h, Fh is 55h
abbrev pub nibble_data : ℕ → ℕ
nibble_data n = followed (bit 0 n) + 4 * followed (bit 1 n) + 16 * followed (bit 2 n) + 64 * followed (bit 3 n)

-- the word of a nibble: 0 is D54h, 1 is D52h, Fh is CAAh
unfoldable pub nibble_word : ℕ → ℕ
nibble_word n = word_of (nibble_data n)

-- the word of some nibble; row 6, MANCHESTER, is given where a word between the ends is none
unfoldable pub is_nibble : ℕ → Bool
is_nibble w = some (λ n. eqb w (nibble_word n)) 16

-- The data bits of any word that are no complements. Of a nibble's word they are the nibble.
abbrev pub true_bits : ℕ → ℕ
true_bits w = bit 1 w + bit 3 w * 2 + bit 5 w * 4 + bit 7 w * 8
