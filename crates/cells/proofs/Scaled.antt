-- Scaling in 32 bits: what is worked out on the way to microvolts and volts fits a signed word.
use mathlib.Core.Path.{◌≡◌, refl, sym, ap, ◌∙◌, subst}
use mathlib.Core.Bool.{Bool, true, false, true≢false, cond}
use lib.Dec.{T, ltb, ltb→lt}
use native.Mathlib.Nat.{not-suc-le-zero}
use Prim.Native.Nat.{ℕ, zero, suc, ◌+◌, ◌-◌, ◌*◌, ◌/◌, ◌<◌}
use native.Mathlib.Omega.{arith}
use lib.IntN.{ℤ, pos, negsuc, neg_ℤ, nat_abs, ◌+ℤ◌, ◌*ℤ◌}
use lib.Signed.{mag, lt_z, quot_z}
use mir.Syntax.{w32}
use mir.Val.{SFits, to_z, of_z}
use mir.ValLaws.{to_z-of_z}
use Rattle.cells.specs.Voltage.{steps_of, microvolts_of}
use Rattle.cells.specs.declared.Range.{Range}
use Rattle.cells.specs.declared.Range.TheVariants.{Unipolar, Bipolar}

-- a negative number times a positive one, as the number below zero that it is
pub times_below : (n k : ℕ) → negsuc n *ℤ pos (suc k) ≡ negsuc (n * suc k + k)
times_below n k = ap (λ (x : ℕ). neg_ℤ (pos x)) (below n k)
  where
    below : (n k : ℕ) → suc n * suc k ≡ suc (n * suc k + k)
    below n k = omega arith

-- in size, a product is the product of the sizes
size_minus : (n : ℕ) → nat_abs (neg_ℤ (pos n)) ≡ n
size_minus zero = refl
size_minus (suc n) = refl

pub size_times : (d k : ℤ) → nat_abs (d *ℤ k) ≡ nat_abs d * nat_abs k
size_times (pos n) (pos j) = refl
size_times (pos n) (negsuc j) = size_minus (n * suc j)
size_times (negsuc n) (pos j) = size_minus (suc n * j)
size_times (negsuc n) (negsuc j) = refl

pub small_fits : (z : ℤ) → nat_abs z < 2147483648 → SFits w32 z
small_fits (pos n) h = record { sfits = h }
small_fits (negsuc n) h = record { sfits = omega arith }

pub scaled_fits : (d : ℤ) → nat_abs d < 16384 → SFits w32 (d *ℤ pos 78125)
scaled_fits d h = small_fits (d *ℤ pos 78125) (omega (arith, size_times d (pos 78125)))

-- half the divisor, away from zero
abbrev pub half_of : ℤ → ℤ
half_of (pos n) = pos 128
half_of (negsuc n) = negsuc 127

pub half_below : (d : ℤ) → lt_z d (pos 0) ≡ true → half_of d ≡ negsuc 127
half_below (pos n) t = absurd (not-suc-le-zero (ltb→lt n 0 (subst T (sym t) tt)))
half_below (negsuc n) t = refl

pub half_above : (d : ℤ) → lt_z d (pos 0) ≡ false → half_of d ≡ pos 128
half_above (pos n) t = refl
half_above (negsuc n) t = absurd (true≢false t)

pub half_fits : (d : ℤ) → nat_abs d < 16384 → SFits w32 (d *ℤ pos 78125 +ℤ half_of d)
half_fits (pos n) h = record { sfits = omega (arith, h) }
half_fits (negsuc n) h = subst (λ (z : ℤ). SFits w32 (z +ℤ negsuc 127)) (sym (times_below n 78124)) (record { sfits = omega (arith, h) })

-- with it, the quotient cut towards zero is the nearest number of microvolts
pub half_is : (d : ℤ) → quot_z (d *ℤ pos 78125 +ℤ half_of d) (pos 256) ≡ microvolts_of d
unfolding microvolts_of
half_is (pos n) = refl
half_is (negsuc n) = ap (λ (z : ℤ). quot_z (z +ℤ negsuc 127) (pos 256)) (times_below n 78124) ∙ ap (λ (x : ℕ). neg_ℤ (pos (x / 256))) (same n)
  where
    same : (n : ℕ) → suc (suc (n * 78125 + 78124 + 127)) ≡ suc n * 78125 + 128
    same n = omega arith

pub microvolts_fit : (d : ℤ) → nat_abs d < 16384 → SFits w32 (microvolts_of d)
unfolding microvolts_of
microvolts_fit (pos n) h = record { sfits = omega (arith, h) }
microvolts_fit (negsuc n) h = record { sfits = mag_below ((suc n * 78125 + 128) / 256) (omega (arith, h)) }
  where
    mag_below : (r : ℕ) → r < 2147483648 → mag (neg_ℤ (pos r)) < 2147483648
    mag_below zero h = h
    mag_below (suc r) h = omega (arith, h)

-- a number that fits comes back from its word
pub kept : (z y : ℤ) → z ≡ y → SFits w32 y → to_z w32 (of_z w32 z) ≡ y
kept z y same fits = ap (λ (x : ℤ). to_z w32 (of_z w32 x)) same ∙ to_z-of_z w32 y fits

-- a measurement in a signed word, and the steps it stands from 0 V
pub code_word : (m : ℕ) → m < 16384 → to_z w32 m ≡ pos m
code_word m h = kept (pos m) (pos m) refl (record { sfits = omega (arith, h) })

pub few_steps : (range : Range) (m : ℕ) → m < 16384 → nat_abs (steps_of range m) < 16384
few_steps Unipolar m h = h
few_steps Bipolar m h = by (ltb m 8192) refl
  where
    by : (t : Bool) → ltb m 8192 ≡ t → nat_abs (cond t (negsuc (8192 - suc m)) (pos (m - 8192))) < 16384
    by true e = omega (arith, h)
    by false e = omega (arith, h)

pub few_fit : (d : ℤ) → nat_abs d < 16384 → SFits w32 d
few_fit d h = small_fits d (omega arith)

pub steps_fit : (range : Range) (m : ℕ) → m < 16384 → SFits w32 (steps_of range m)
steps_fit range m h = few_fit (steps_of range m) (few_steps range m h)
