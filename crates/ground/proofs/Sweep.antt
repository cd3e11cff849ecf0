-- What a test of every number below a bound shows of each of them, and what a test of some number below it amounts to.
use mathlib.Core.Path.{◌≡◌, refl, sym, ap, ap₂, ◌∙◌}
use mathlib.Core.Bool.{Bool, true, false≢true}
use mathlib.Core.Logic.{⊎_elim}
use mathlib.Core.List.{List, ◌∷◌}
use Prim.Native.Nat.{ℕ, zero, suc, ◌+◌, ◌<◌}
use native.Mathlib.Nat.{eq-or-lt_of_le, le_of_suc-le-suc, not-suc-le-zero, add-zero, add-suc, suc-add}
use native.Mathlib.Omega.{arith}
use lib.ListN.{length, get_or}
use Rattle.ground.specs.Sweep.{every, some, tabulated}
use Rattle.ground.proofs.Test.{and_left, and_right, or_cases, or_left, or_right}

-- the computed test, carried to one number
pub swept : (test : ℕ → Bool) (n : ℕ) → every test n ≡ true → (k : ℕ) → k < n → test k ≡ true
swept test zero e k h = absurd (not-suc-le-zero h)
swept test (suc n) e k h =
    ⊎_elim
    (λ same. ap test same ∙ and_left (test n) (every test n) e)
    (λ lower. swept test n (and_right (test n) (every test n) e) k lower)
    (eq-or-lt_of_le (le_of_suc-le-suc h))

-- some number below the bound passes: whatever follows from any that does
pub found : {A : Type 0} (test : ℕ → Bool) (n : ℕ) → some test n ≡ true → ((k : ℕ) → k < n → test k ≡ true → A) → A
found test zero e then = absurd (false≢true e)
found test (suc n) e then =
    ⊎_elim (λ here. then n (omega arith) here) (λ lower. found test n lower (λ k h. then k (omega arith))) (or_cases (test n) (some test n) e)

-- a number below the bound that passes is one
pub passes : (test : ℕ → Bool) (n k : ℕ) → k < n → test k ≡ true → some test n ≡ true
passes test zero k h e = absurd (not-suc-le-zero h)
passes test (suc n) k h e =
    ⊎_elim (λ same. or_left (test n) (some test n) (sym (ap test same) ∙ e))
    (λ lower. or_right (test n) (some test n) (passes test n k lower e)) (eq-or-lt_of_le (le_of_suc-le-suc h))

-- an entry of a computed table is its rule at the entry's place
pub tabulated_at : (f : ℕ → ℕ) (n i k : ℕ) → k < n → get_or (tabulated f n i) k 0 ≡ f (i + k)
tabulated_at f zero i k h = absurd (not-suc-le-zero h)
tabulated_at f (suc n) i zero h = ap f (sym (add-zero i))
tabulated_at f (suc n) i (suc k) h = tabulated_at f n (suc i) k (le_of_suc-le-suc h) ∙ ap f (suc-add i k ∙ sym (add-suc i k))

pub length_tabulated : (f : ℕ → ℕ) (n i : ℕ) → length (tabulated f n i) ≡ n
length_tabulated f zero i = refl
length_tabulated f (suc n) i = ap suc (length_tabulated f n (suc i))

-- two rules that agree at the places of a table make the same table
pub tabulated_same : (f g : ℕ → ℕ) (n i : ℕ) → ((k : ℕ) → k < i + n → f k ≡ g k) → tabulated f n i ≡ tabulated g n i
tabulated_same f g zero i h = refl
tabulated_same f g (suc n) i h =
    ap₂ (λ (x : ℕ) (l : List ℕ). x ∷ l) (h i (omega arith)) (tabulated_same f g n (suc i) (λ k lt. h k (omega arith)))
