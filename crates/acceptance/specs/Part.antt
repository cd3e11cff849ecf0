-- The part of a line that the second call hands back, read as a value.
use Rattle.std.specs.Prelude.{List, ℕ, ◌+◌, ◌*◌, get_or}
use Rattle.characters.specs.Nibble.{true_bits}

-- four characters: the low byte's two nibbles, then the high byte's, low nibble first
abbrev pub part_value : List ℕ → ℕ
part_value part =
    true_bits (get_or part 0 0) + 16 * true_bits (get_or part 1 0) + 256 * (true_bits (get_or part 2 0) + 16 * true_bits (get_or part 3 0))
