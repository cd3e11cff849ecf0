-- What the loops go by: the first bad place of a line from a place on, by how many places are left. Of a line's own words it is `first_failing`
-- (`proofs/FirstPlace.antt`: `characters_along`, `nibbles_along`).
use Rattle.std.specs.Prelude.{Bool, cond, List, ℕ, zero, suc, get_or, Option, Some, None}

-- the lowest of the n places from i on whose word fails the test
unfoldable pub failing_along : (test : ℕ → Bool) → (line : List ℕ) → (i n : ℕ) → Option ℕ
failing_along test line i zero = None
failing_along test line i (suc n) = cond (test (get_or line i 0)) (failing_along test line (suc i) n) (Some i)
