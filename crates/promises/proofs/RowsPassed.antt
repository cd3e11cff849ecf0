-- Where a number is due, which rows are given: of rows numbered one after the other, none before the one whose number is due, and that one.
use mathlib.Core.Path.{◌≡◌}
use mathlib.Core.Logic.{◌⊎◌, inl, inr}
use mathlib.Core.List.{List, [], ◌∷◌}
use Prim.Native.Nat.{ℕ, zero, suc, ◌+◌, ◌≤◌, ◌<◌}
use native.Mathlib.Omega.{arith}
use Rattle.promises.specs.ByNumber.{Row, row, NumberDue}

-- when row k is given, counted from 0
abbrev pub Given : List Row → (k : ℕ) → Type 0
Given [] k = ⊥
Given (row number given ∷ rows) zero = given
Given (row number given ∷ rows) (suc k) = Given rows k

-- numbered one after the other, from n on
abbrev pub Numbered : (n : ℕ) → List Row → Type 0
Numbered n [] = Unit
Numbered n (row number given ∷ rows) = (number ≡ n) × Numbered (suc n) rows

-- none before the one that is due, and none at all where the number is 0
pub not_before : (n : ℕ) (rows : List Row) (due : ℕ) → 1 ≤ n → Numbered n rows → NumberDue rows due → (k : ℕ) → (due ≡ 0) ⊎ (n + k < due) → Given rows k → ⊥
not_before n [] due some in_order is k early given = given
not_before n (row number given ∷ rows) due some in_order (inl is) k (inl none) g = omega (arith, is.1, in_order.0)
not_before n (row number given ∷ rows) due some in_order (inl is) k (inr early) g = omega (arith, is.1, in_order.0)
not_before n (row number given ∷ rows) due some in_order (inr is) zero early g = is.0 g
not_before n (row number given ∷ rows) due some in_order (inr is) (suc k) (inl none) g =
    not_before (suc n) rows due (omega arith) in_order.1 is.1 k (inl none) g
not_before n (row number given ∷ rows) due some in_order (inr is) (suc k) (inr early) g =
    not_before (suc n) rows due (omega arith) in_order.1 is.1 k (inr (omega arith)) g

-- a number that is due is 0 or one of theirs
due_from : (n : ℕ) (rows : List Row) (due : ℕ) → Numbered n rows → NumberDue rows due → (due ≡ 0) ⊎ (n ≤ due)
due_from n [] due in_order is = inl is
due_from n (row number given ∷ rows) due in_order (inl is) = inr (omega (arith, is.1, in_order.0))
due_from n (row number given ∷ rows) due in_order (inr is) = later (due_from (suc n) rows due in_order.1 is.1)
  where
    later : (due ≡ 0) ⊎ (suc n ≤ due) → (due ≡ 0) ⊎ (n ≤ due)
    later (inl none) = inl none
    later (inr some) = inr (omega arith)

-- the row whose number is due is given
pub is_given : (n : ℕ) (rows : List Row) (due : ℕ) → 1 ≤ due → Numbered n rows → NumberDue rows due → (k : ℕ) → due ≡ n + k → Given rows k
is_given n [] due some in_order is k same = absurd (omega (arith, is))
is_given n (row number given ∷ rows) due some in_order (inl is) zero same = is.0
is_given n (row number given ∷ rows) due some in_order (inl is) (suc k) same = absurd (omega (arith, is.1, in_order.0))
is_given n (row number given ∷ rows) due some in_order (inr is) zero same = absurd (past (due_from (suc n) rows due in_order.1 is.1))
  where
    past : (due ≡ 0) ⊎ (suc n ≤ due) → ⊥
    past (inl none) = omega arith
    past (inr above) = omega arith
is_given n (row number given ∷ rows) due some in_order (inr is) (suc k) same = is_given (suc n) rows due some in_order.1 is.1 k (omega arith)
