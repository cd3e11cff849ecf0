-- Nibbles between words and bytes: what many bytes of a line are read through.
use Rattle.std.specs.Prelude.{ℕ, ◌+◌, ◌*◌, List, get_or}
use Rattle.characters.specs.Nibble.{true_bits}

-- the nibble of word k, 0 past the end
abbrev pub nibble_in : List ℕ → ℕ → ℕ
nibble_in words k = true_bits (get_or words k 0)

-- byte k of some nibbles, low nibble first
abbrev pub two_of : (ℕ → ℕ) → ℕ → ℕ
two_of nibble k = nibble (2 * k) + 16 * nibble (2 * k + 1)
