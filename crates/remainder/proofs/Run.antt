-- A list taken in from its place i on: the next number first, and nothing past the end. What a loop over a list goes by.
use mathlib.Core.Path.{◌≡◌, ap}
use mathlib.Core.List.{List}
use Prim.Native.Nat.{ℕ, ◌+◌, ◌≤◌, ◌<◌}
use native.Mathlib.Numerals.{add-one}
use lib.ListN.{length, get_or, drop, drop_of_length-le}
use lib.Seq.{drop-cons}
use Rattle.remainder.specs.Register.{run}

pub run_next : (step : ℕ → ℕ → ℕ) (c : ℕ) (l : List ℕ) (i : ℕ) → i < length l
    → run step c (drop i l) ≡ run step (step c (get_or l i 0)) (drop (i + 1) l)
unfolding run
run_next step c l i h = rw (add-one, drop-cons l i 0 h)

pub run_end : (step : ℕ → ℕ → ℕ) (c : ℕ) (l : List ℕ) (i : ℕ) → length l ≤ i → run step c (drop i l) ≡ c
unfolding run
run_end step c l i h = ap (run step c) (drop_of_length-le l h)
