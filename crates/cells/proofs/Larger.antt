-- Larger code, larger voltage: in whole microvolts and in single precision, in either range.
use mathlib.Core.Path.{◌≡◌, refl, sym, ap, ◌∙◌, subst}
use mathlib.Core.Bool.{Bool, true, false, false≢true, cond}
use Prim.Native.Nat.{ℕ, zero, suc, ◌+◌, ◌-◌, ◌*◌, ◌<◌}
use native.Mathlib.Nat.{mul_assoc, mul_right_comm, zero-mul, zero-lt-suc, lt_trans, mul-pos, mul-lt-mul_of_pos_right, lt_of_mul-lt-mul_right}
use native.Mathlib.Omega.{arith}
use borrow.Author.Tests.{ltb-true, ltb-false, lt-ltb}
use lib.Dec.{ltb}
use lib.IntN.{ℤ, pos, negsuc, neg_ℤ, nat_abs}
use lib.Signed.{lt_z}
use lib.Ieee.{Float, nan, inf, fin, up, down, below, lt}
use lib.Ieee.Fits.{down_pos}
use lib.Ieee.Exact.{HasValue}
use Rattle.cells.specs.Voltage.{steps_of, nearest_microvolts, microvolts_of, negative, volts_of}
use Rattle.cells.specs.declared.Range.{Range}
use Rattle.cells.specs.declared.Range.TheVariants.{Unipolar, Bipolar}
use Rattle.cells.proofs.Scaled.{few_steps}
use Rattle.cells.proofs.Exact.{volts_exact}

pub steps_larger : (range : Range) (m n : ℕ) → m < n → lt_z (steps_of range m) (steps_of range n) ≡ true
steps_larger Unipolar m n h = lt-ltb m n h
steps_larger Bipolar m n h = by (ltb m 8192) (ltb n 8192) refl refl
  where
    by : (s t : Bool) → ltb m 8192 ≡ s → ltb n 8192 ≡ t
        → lt_z (cond s (negsuc (8192 - suc m)) (pos (m - 8192))) (cond t (negsuc (8192 - suc n)) (pos (n - 8192))) ≡ true
    by true true p q = lt-ltb (8192 - suc n) (8192 - suc m) (let a = ltb-true m 8192 p in let b = ltb-true n 8192 q in omega (arith, h, a, b))
    by true false p q = refl
    by false true p q = absurd (let a = ltb-false m 8192 p in let b = ltb-true n 8192 q in omega (arith, h, a, b))
    by false false p q = lt-ltb (m - 8192) (n - 8192) (let a = ltb-false m 8192 p in let b = ltb-false n 8192 q in omega (arith, h, a, b))

-- below zero, the larger size is the smaller number
under_zero : (p q : ℕ) → 0 < p → lt_z (neg_ℤ (pos p)) (pos q) ≡ true
under_zero zero q h = absurd (omega (arith, h))
under_zero (suc p) q h = refl

both_under : (p q : ℕ) → 0 < q → q < p → lt_z (neg_ℤ (pos p)) (neg_ℤ (pos q)) ≡ true
both_under p zero h l = absurd (omega (arith, h))
both_under zero (suc q) h l = absurd (omega (arith, l))
both_under (suc p) (suc q) h l = lt-ltb q p (omega (arith, l))

pub microvolts_larger : (d e : ℤ) → lt_z d e ≡ true → lt_z (microvolts_of d) (microvolts_of e) ≡ true
unfolding microvolts_of
microvolts_larger (pos m) (pos n) h = lt-ltb (nearest_microvolts m) (nearest_microvolts n) (let l = ltb-true m n h in omega (arith, l))
microvolts_larger (pos m) (negsuc n) h = absurd (false≢true h)
microvolts_larger (negsuc m) (pos n) h = under_zero (nearest_microvolts (suc m)) (nearest_microvolts n) (omega arith)
microvolts_larger (negsuc m) (negsuc n) h =
    let l = ltb-true n m h in both_under (nearest_microvolts (suc m)) (nearest_microvolts (suc n)) (omega arith) (omega (arith, l))

-- two values over one divisor, brought to one scale, keep their order
scaled_less : (x y de dg a b c : ℕ) → 0 < de → 0 < dg → x * c ≡ a * de → y * c ≡ b * dg → a < b → x * dg < y * de
scaled_less x y de dg a b c pe pg hx hy h =
    let left : x * dg * c ≡ a * (de * dg) = mul_right_comm x dg c ∙ ap (λ (z : ℕ). z * dg) hx ∙ mul_assoc a de dg in
    let right : y * de * c ≡ b * (de * dg) = mul_right_comm y de c ∙ ap (λ (z : ℕ). z * de) hy ∙ mul_right_comm b dg de ∙ mul_assoc b de dg in
    lt_of_mul-lt-mul_right c (subst (λ (z : ℕ). x * dg * c < z) (sym right) (subst (λ (z : ℕ). z < b * (de * dg)) (sym left) (mul-lt-mul_of_pos_right h (mul-pos pe pg))))

-- a value above zero stays above it
scaled_some : (x de dg a c : ℕ) → 0 < de → 0 < dg → x * c ≡ a * de → 0 < a → 0 < x * dg
scaled_some x de dg a c pe pg hx h =
    subst (λ (z : ℕ). z < x * dg) (zero-mul de) (scaled_less 0 x dg de 0 a c pg pe (zero-mul c ∙ sym (zero-mul dg)) hx h)

-- in single precision: two numbers stand as their values do
scaled_stand : (s t : Bool) (x y de dg a b c : ℕ) → 0 < de → 0 < dg → x * c ≡ a * de → y * c ≡ b * dg → below s a t b ≡ true → below s (x * dg) t (y * de) ≡ true
scaled_stand false false x y de dg a b c pe pg hx hy h = lt-ltb (x * dg) (y * de) (scaled_less x y de dg a b c pe pg hx hy (ltb-true a b h))
scaled_stand false true x y de dg a b c pe pg hx hy h = h
scaled_stand true false x y de dg zero b c pe pg hx hy h =
    lt-ltb 0 (x * dg + y * de) (let q = ltb-true 0 (0 + b) h in let p = scaled_some y dg de b c pg pe hy (omega (arith, q)) in omega (arith, p))
scaled_stand true false x y de dg (suc a) b c pe pg hx hy h =
    lt-ltb 0 (x * dg + y * de) (let p = scaled_some x de dg (suc a) c pe pg hx (zero-lt-suc a) in omega (arith, p))
scaled_stand true true x y de dg a b c pe pg hx hy h = lt-ltb (y * de) (x * dg) (scaled_less y x dg de b a c pg pe hy hx (ltb-true b a h))

values_stand : (x y : Float) (s t : Bool) (a b c : ℕ) → HasValue x s a c → HasValue y t b c → below s a t b ≡ true → lt x y ≡ true
unfolding lt
values_stand nan y s t a b c v w h = absurd v
values_stand (inf r) y s t a b c v w h = absurd v
values_stand (fin r m e) nan s t a b c v w h = absurd w
values_stand (fin r m e) (inf u) s t a b c v w h = absurd w
values_stand (fin r m e) (fin u n g) s t a b c v w h =
    (λ i. below (v.0 i) (m * up e * down g) (w.0 i) (n * up g * down e))
    ∙ scaled_stand s t (m * up e) (n * up g) (down e) (down g) a b c (down_pos e) (down_pos g) v.1 w.1 h

steps_stand : (d e : ℤ) → lt_z d e ≡ true → below (negative d) (nat_abs d * 5) (negative e) (nat_abs e * 5) ≡ true
steps_stand (pos m) (pos n) h = lt-ltb (m * 5) (n * 5) (let l = ltb-true m n h in omega (arith, l))
steps_stand (pos m) (negsuc n) h = h
steps_stand (negsuc m) (pos n) h = lt-ltb 0 (suc m * 5 + n * 5) (omega arith)
steps_stand (negsuc m) (negsuc n) h = lt-ltb (suc n * 5) (suc m * 5) (let l = ltb-true n m h in omega (arith, l))

pub volts_larger : (d e : ℤ) → nat_abs d < 16384 → nat_abs e < 16384 → lt_z d e ≡ true → lt (volts_of d) (volts_of e) ≡ true
volts_larger d e p q h =
    values_stand (volts_of d) (volts_of e) (negative d) (negative e) (nat_abs d * 5) (nat_abs e * 5) 16384 (volts_exact d p) (volts_exact e q) (steps_stand d e h)

-- the promise, by codes
pub larger_code : (range : Range) (m n : ℕ) → m < n → n < 16384
    → (lt_z (microvolts_of (steps_of range m)) (microvolts_of (steps_of range n)) ≡ true) × (lt (volts_of (steps_of range m)) (volts_of (steps_of range n)) ≡ true)
larger_code range m n h top =
    let more = steps_larger range m n h in (
      microvolts_larger (steps_of range m) (steps_of range n) more,
      volts_larger (steps_of range m) (steps_of range n) (few_steps range m (lt_trans h top)) (few_steps range n top) more,
    )
