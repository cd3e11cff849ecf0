-- A word as two bytes, low first (document 01, "Job file and certificate" and "The C side").
use Rattle.std.specs.Prelude.{◌≡◌, cond, List, [], ◌∷◌, ◌++◌, ℕ, ◌+◌, ◌*◌, ◌/◌, ◌%◌, eqb, leb, length, get_or, set}
use Rattle.std.proofs.lemmas.List.Edits.{sets}

-- the words of some bytes; an odd last byte counts for nothing
unfoldable pub words_of : List ℕ → List ℕ
words_of [] = []
words_of (b ∷ []) = []
words_of (low ∷ high ∷ rest) = (low + 256 * high) ∷ words_of rest

-- a word's bytes: low byte, high byte
abbrev pub low_high : ℕ → List ℕ
low_high w = w % 256 ∷ w / 256 ∷ []

-- the bytes of some words
unfoldable pub as_bytes : List ℕ → List ℕ
as_bytes [] = []
as_bytes (w ∷ words) = low_high w ++ as_bytes words

-- word k of some bytes
abbrev pub word_at : List ℕ → (k : ℕ) → ℕ
word_at bytes k = get_or bytes (2 * k) 0 + 256 * get_or bytes (2 * k + 1) 0

-- some bytes with one word at its place
abbrev pub with_word : List ℕ → (k word : ℕ) → List ℕ
with_word bytes k word = set (set bytes (2 * k) (word % 256)) (2 * k + 1) (word / 256)

-- the words of a line of bytes; an odd number of bytes is as no line at all
abbrev pub line_on : (bytes : List ℕ) → List ℕ
line_on bytes = cond (eqb (length bytes % 2) 0) (words_of bytes) []

-- and where so many words can be held: a line that is too long is as none
unfoldable pub line_in : (room : ℕ) → (bytes : List ℕ) → List ℕ
line_in room bytes = cond (leb (length (line_on bytes)) room) (line_on bytes) []

-- what `take_line` says and leaves: all as it was, where there is no line
pub record LineTaken (bytes before after : List ℕ) (r : ℕ) : Type 0 where
  pub counts : r ≡ length (line_in (length before) bytes)
  pub leaves : after ≡ sets before 0 (line_in (length before) bytes)
