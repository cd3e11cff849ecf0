-- A test of the numbers below a bound, which the checker computes. A rule of a table, or of all nibbles, is shown by one such test.
use Rattle.std.specs.Prelude.{ℕ, zero, suc, Bool, true, false, ◌&&◌, ◌||◌, List, [], ◌∷◌}

-- the test passes at each number below n
abbrev pub every : (ℕ → Bool) → ℕ → Bool
every test zero = true
every test (suc n) = test n && every test n

-- the test passes at some number below n
abbrev pub some : (ℕ → Bool) → ℕ → Bool
some test zero = false
some test (suc n) = test n || some test n

-- the list of f at i, and at the n - 1 numbers after it: a table, computed from its rule
abbrev pub tabulated : (ℕ → ℕ) → (n i : ℕ) → List ℕ
tabulated f zero i = []
tabulated f (suc n) i = f i ∷ tabulated f n (suc i)
