-- A number of a format is settled by its sign and its value: two that fit and have the same are the same. The library knows this of whole
-- values. Zero is one; two others of one value are odd digits times powers of two, and divided by the smaller power both are whole.
use mathlib.Core.Path.{◌≡◌, refl, sym, ap, ◌∙◌}
use mathlib.Core.Bool.{Bool, true, false, ◌&&◌}
use Prim.Native.Nat.{ℕ, zero, suc, ◌+◌, ◌-◌, ◌*◌, ◌%◌, ◌<◌, ◌≤◌, ◌^◌}
use native.Mathlib.Nat.{mul_assoc, mul-one, zero-mul, mul-pos, zero-lt-suc, le_refl, le_antisymm, lt_of_lt_of_le, eq_of_mul-eq-mul_right}
use native.Mathlib.Omega.{arith}
use borrow.Author.Tests.{leb-true, leb-false}
use lib.Dec.{T, eqb, ltb, leb, ltb→lt, lt→ltb, le→leb}
use lib.Pow.{pow-add, pow_pos, pow_mono}
use lib.IntN.{ℤ, pos, negsuc}
use lib.Ieee.{Float, nan, inf, fin, Format, prec, low, emax, up, down, fits}
use lib.Ieee.Fits.{reach, and_i, and_l, and_r}
use lib.Ieee.Exact.{HasValue}
use lib.Ieee.Order.{transfer}
use lib.Ieee.Back.{whole_unique}

-- odd, and no longer than the format keeps
abbrev digits : Format → ℕ → Bool
digits f m = eqb (m % 2) 1 && ltb m (2 ^ prec f)

digits_of : (f : Format) (s : Bool) (m : ℕ) (e : ℤ) → T (fits f (fin s (suc m) e)) → T (digits f (suc m))
unfolding fits
digits_of f s m e t =
    let inside = leb (down e) (2 ^ low f) in
    and_l (digits f (suc m)) inside (and_l (digits f (suc m) && inside) (ltb (suc m * up e) (2 ^ suc (emax f) * down e)) t)

-- a whole number no larger than digits can be is held
holds : (f : Format) (m n k : ℕ) → T (digits f m) → T (digits f (suc n)) → m ≡ suc n * 2 ^ k → T (fits f (fin false (suc n) (pos k)))
unfolding fits
holds f m n k p q h =
    let small = lt_of_lt_of_le (ltb→lt m (2 ^ prec f) (and_r (eqb (m % 2) 1) (ltb m (2 ^ prec f)) p)) (pow_mono (reach f)) in
    and_i (digits f (suc n) && leb 1 (2 ^ low f)) (ltb (suc n * 2 ^ k) (2 ^ suc (emax f) * 1))
    (and_i (digits f (suc n)) (leb 1 (2 ^ low f)) q (le→leb 1 (2 ^ low f) (pow_pos (low f))))
    (lt→ltb (suc n * 2 ^ k) (2 ^ suc (emax f) * 1) (rw (mul-one, ← h) small))

-- digits times powers of two: one value, the same parts
module _ (f : Format) (m n a b : ℕ) (p : T (digits f (suc m))) (q : T (digits f (suc n))) (h : suc m * 2 ^ a ≡ suc n * 2 ^ b) where
  quotient : a ≤ b → suc m ≡ suc n * 2 ^ (b - a)
  quotient l = eq_of_mul-eq-mul_right (2 ^ a) (pow_pos a) (suc m) (suc n * 2 ^ (b - a)) (h ∙ split)
    where
      split : suc n * 2 ^ b ≡ suc n * 2 ^ (b - a) * 2 ^ a
      split = rw (mul_assoc, ← pow-add) (ap (λ (x : ℕ). suc n * 2 ^ x) (omega arith))

  ordered : a ≤ b → (suc m ≡ suc n) × (a ≡ b)
  ordered l =
      let k = b - a in
      let e = quotient l in
      let same = whole_unique f (fin false (suc m) (pos 0)) (fin false (suc n) (pos k)) false (suc m)
      (holds f (suc m) m 0 p p (sym (mul-one (suc m)))) (holds f (suc m) n k p q e)
      (refl, mul-one (suc m * 1)) (refl, ap (λ (x : ℕ). x * 1) (sym e)) in
      let none : 0 ≡ k = cc in
      (cc, omega arith)

same_parts : (f : Format) (m n a b : ℕ) → T (digits f (suc m)) → T (digits f (suc n)) → suc m * 2 ^ a ≡ suc n * 2 ^ b → (suc m ≡ suc n) × (a ≡ b)
same_parts f m n a b p q h = by (leb a b) refl
  where
    by : (t : Bool) → leb a b ≡ t → (suc m ≡ suc n) × (a ≡ b)
    by true l = ordered f m n a b p q h (leb-true a b l)
    by false l = let r = ordered f n m b a q p (sym h) (omega (arith, leb-false)) in (sym r.0, sym r.1)

never : (n a b : ℕ) → suc n * 2 ^ a ≡ zero * 2 ^ b → ⊥
never n a b h = let some = mul-pos (zero-lt-suc n) (pow_pos a) in omega (arith, h ∙ zero-mul (2 ^ b))

-- an exponent's distance above 0, and below
abbrev above : ℤ → ℕ
above (pos k) = k
above (negsuc k) = 0

abbrev below : ℤ → ℕ
below (pos k) = 0
below (negsuc k) = suc k

same_exponent : (e g : ℤ) → above e + below g ≡ above g + below e → e ≡ g
same_exponent (pos a) (pos b) h = ap pos (omega arith)
same_exponent (pos a) (negsuc b) h = absurd (omega arith)
same_exponent (negsuc a) (pos b) h = absurd (omega arith)
same_exponent (negsuc a) (negsuc b) h = ap negsuc (omega arith)

power : (m : ℕ) (e g : ℤ) → m * 2 ^ (above e + below g) ≡ m * up e * down g
power m (pos a) (pos b) = simp (pow-add, mul_assoc)
power m (pos a) (negsuc b) = simp (pow-add, mul_assoc)
power m (negsuc a) (pos b) = simp (pow-add, mul_assoc)
power m (negsuc a) (negsuc b) = simp (pow-add, mul_assoc)

-- equal values over the same divisor, brought to one scale
crossed : (x y de dg a c : ℕ) → 0 < c → x * c ≡ a * de → y * c ≡ a * dg → x * dg ≡ y * de
crossed x y de dg a c some hx hy =
    le_antisymm (transfer x y de dg a a c c some some hx hy (le_refl (a * c))) (transfer y x dg de a a c c some some hy hx (le_refl (a * c)))

pub determined : (f : Format) (x y : Float) (s : Bool) (a c : ℕ) → 0 < c → T (fits f x) → T (fits f y) → HasValue x s a c → HasValue y s a c → x ≡ y
determined f nan y s a c some p q v w = absurd v
determined f (inf t) y s a c some p q v w = absurd v
determined f (fin t m e) nan s a c some p q v w = absurd w
determined f (fin t m e) (inf u) s a c some p q v w = absurd w
determined f (fin t m e) (fin u n g) s a c some p q v w =
    by m n p q (power m e g ∙ crossed (m * up e) (n * up g) (down e) (down g) a c some v.1 w.1 ∙ sym (power n g e))
  where
    by : (m n : ℕ) → T (fits f (fin t m e)) → T (fits f (fin u n g)) → m * 2 ^ (above e + below g) ≡ n * 2 ^ (above g + below e) → fin t m e ≡ fin u n g
    by zero zero p q h = whole_unique f (fin t zero e) (fin u zero g) s 0 p q (v.0, simp zero-mul) (w.0, simp zero-mul)
    by zero (suc n) p q h = absurd (never n (above g + below e) (above e + below g) (sym h))
    by (suc m) zero p q h = absurd (never m (above e + below g) (above g + below e) h)
    by (suc m) (suc n) p q h =
        let r = same_parts f m n (above e + below g) (above g + below e) (digits_of f t m e p) (digits_of f u n g q) h in
        λ i. fin ((v.0 ∙ sym w.0) i) (r.0 i) (same_exponent e g r.1 i)
