-- The two ranges: where they overlap they agree, the bipolar code standing 8192 steps (2.5 V exactly) higher; and codes
-- equally far from 8192 on either side have opposite microvolts.
use mathlib.Core.Path.{◌≡◌, refl, sym, ap, ◌∙◌}
use mathlib.Core.Bool.{Bool, cond}
use Prim.Native.Nat.{ℕ, zero, suc, ◌+◌, ◌-◌, ◌≤◌}
use native.Mathlib.Omega.{arith}
use borrow.Author.Tests.{le-ltb, lt-ltb}
use lib.IntN.{ℤ, pos, negsuc, neg_ℤ, sub_ℕ, ◌-ℤ◌, neg_ℤ-neg_ℤ}
use Rattle.cells.specs.Voltage.{steps_of, nearest_microvolts, microvolts_of, volts_of, voltage_of}
use Rattle.cells.specs.declared.Range.TheVariants.{Unipolar, Bipolar}

above : (m k : ℕ) → sub_ℕ (m + k) k ≡ pos m
above m k = ap (λ (t : Bool). cond t (negsuc (k - suc (m + k))) (pos (m + k - k))) (le-ltb (m + k) k (omega arith)) ∙ ap pos (back m k)
  where
    back : (m k : ℕ) → m + k - k ≡ m
    back m k = omega arith

under : (m n k : ℕ) → m + suc n ≡ k → sub_ℕ m k ≡ negsuc n
under m n k e = ap (λ (t : Bool). cond t (negsuc (k - suc m)) (pos (m - k))) (lt-ltb m k (omega arith)) ∙ ap negsuc (rest m n k e)
  where
    rest : (m n k : ℕ) → m + suc n ≡ k → k - suc m ≡ n
    rest m n k e = omega arith

-- the same code: bipolar is 8192 steps lower
pub ranges_shifted : (m : ℕ) → steps_of Bipolar m ≡ steps_of Unipolar m -ℤ pos 8192
ranges_shifted m = refl

-- the same voltage: bipolar's code is 8192 higher
pub ranges_agree : (m : ℕ) → voltage_of Bipolar (m + 8192) ≡ voltage_of Unipolar m
ranges_agree m = ap (λ (d : ℤ). record { microvolts = microvolts_of d; volts = volts_of d }) (above m 8192)

pub microvolts_opposite : (d : ℤ) → microvolts_of (neg_ℤ d) ≡ neg_ℤ (microvolts_of d)
unfolding microvolts_of
microvolts_opposite (pos zero) = refl
microvolts_opposite (pos (suc n)) = refl
microvolts_opposite (negsuc n) = sym (neg_ℤ-neg_ℤ (pos (nearest_microvolts (suc n))))

steps_opposite : (k : ℕ) → k ≤ 8192 → steps_of Bipolar (8192 - k) ≡ neg_ℤ (steps_of Bipolar (k + 8192))
steps_opposite zero h = refl
steps_opposite (suc n) h = under (8192 - suc n) n 8192 (omega (arith, h)) ∙ ap neg_ℤ (sym (above (suc n) 8192))

pub codes_opposite : (k : ℕ) → k ≤ 8192 → microvolts_of (steps_of Bipolar (8192 - k)) ≡ neg_ℤ (microvolts_of (steps_of Bipolar (k + 8192)))
codes_opposite k h = ap microvolts_of (steps_opposite k h) ∙ microvolts_opposite (steps_of Bipolar (k + 8192))
