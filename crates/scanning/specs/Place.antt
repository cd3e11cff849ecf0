-- Bad places of a line (document 01, rows 4 and 6 of "Turned away"): the lowest one, counted in words from 0, or none.
use Rattle.std.specs.Prelude.{Bool, true, false, cond, List, [], ◌∷◌, ℕ, suc, Option, Some, None}
use Rattle.character_check.specs.Check.{is_character}
use Rattle.characters.specs.Nibble.{is_nibble}
use Rattle.lines.specs.Line.{between}

-- the lowest place whose word fails the test, of words of which the first stands at place i
unfoldable pub first_failing : (test : ℕ → Bool) → (i : ℕ) → (words : List ℕ) → Option ℕ
first_failing test i [] = None
first_failing test i (word ∷ words) = cond (test word) (first_failing test (suc i) words) (Some i)

-- CHARACTER looks at every word
unfoldable pub first_no_character : List ℕ → Option ℕ
first_no_character line = first_failing is_character 0 line

-- MANCHESTER looks at the words between the first and the last
unfoldable pub first_no_nibble : List ℕ → Option ℕ
first_no_nibble line = first_failing is_nibble 1 (between line)

abbrev pub is_nowhere : Option ℕ → Bool
is_nowhere (Some i) = false
is_nowhere None = true

-- whether MANCHESTER finds nothing: every word between the first and the last is a nibble's
unfoldable pub all_nibbles : List ℕ → Bool
all_nibbles line = is_nowhere (first_no_nibble line)
