-- A line (document 01, "The line" and "Commands and answers"): preamble, bytes, stop. A byte is two characters, low nibble first.
use mathlib.Core.List.{List, [], ◌∷◌, ◌++◌, drop_last}
use Rattle.std.specs.Prelude.{ℕ, ◌+◌, ◌*◌, ◌/◌, ◌%◌, get_or, drop}
use Rattle.characters.specs.Character.{preamble, stop}
use Rattle.characters.specs.Nibble.{nibble_word, true_bits}

-- two characters a byte, low nibble first
unfoldable pub characters_of : List ℕ → List ℕ
characters_of [] = []
characters_of (b ∷ bytes) = nibble_word (b % 16) ∷ nibble_word (b / 16) ∷ characters_of bytes

-- the line of some bytes
unfoldable pub line_of : List ℕ → List ℕ
line_of bytes = preamble ∷ (characters_of bytes ++ (stop ∷ []))

-- byte i of a line, from the words 1 + 2i and 2 + 2i; a word past the end reads as 0
unfoldable pub byte_at : List ℕ → ℕ → ℕ
byte_at line i = true_bits (get_or line (1 + 2 * i) 0) + 16 * true_bits (get_or line (2 + 2 * i) 0)

-- the words between the ends of a line: all but the first and the last
abbrev pub between : List ℕ → List ℕ
between line = drop_last (drop 1 line)

-- the bytes that some words carry, two words a byte, low nibble first; a word left over carries none
unfoldable pub bytes_in : List ℕ → List ℕ
bytes_in [] = []
bytes_in (word ∷ []) = []
bytes_in (low ∷ high ∷ words) = (true_bits low + 16 * true_bits high) ∷ bytes_in words

-- the bytes of a line: those between its ends
unfoldable pub bytes_of : List ℕ → List ℕ
bytes_of line = bytes_in (between line)
