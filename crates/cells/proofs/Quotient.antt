-- d * 5, a whole number in single precision, divided by 16384.0 is the quotient, rounded once. All of it holds of -5 and -16384.0 too, but
-- the sign of 0 V: what it is there is asked for by itself.
use mathlib.Core.Path.{◌≡◌, refl, sym, ap, ◌∙◌, subst}
use mathlib.Core.Bool.{Bool, true, false}
use Prim.Native.Nat.{ℕ, zero, suc, ◌*◌, ◌<◌, ◌≤◌, ◌^◌}
use native.Mathlib.Nat.{mul-pos, mul_assoc, mul_comm, zero-lt-suc, lt_irrefl}
use native.Mathlib.Omega.{arith}
use lib.Dec.{T, le→leb, lt→ltb}
use lib.IntN.{ℤ, pos, negsuc, nat_abs, ◌*ℤ◌}
use lib.Ieee.{Float, nan, inf, fin, binary32, unlike, up, down, round, div, of_int, in_float}
use lib.Ieee.Fits.{down_pos}
use lib.Ieee.Exact.{HasValue}
use lib.Ieee.Back.{round_whole}
use lib.Ieee.Scale.{round_same}
use mir.Syntax.{w32}
use mir.Val.{SFits, to_z, of_z}
use Rattle.cells.specs.Voltage.{negative, volts_of}
use Rattle.cells.proofs.Scaled.{times_below, size_times, small_fits, few_fit, kept}

in_float_lem : (z : ℤ) → nat_abs z ≤ 2 ^ 24 → T (in_float binary32 z)
unfolding in_float
in_float_lem (pos n) h = le→leb n (2 ^ 24) h
in_float_lem (negsuc n) h = lt→ltb n (2 ^ 24) h

whole : (z : ℤ) → nat_abs z ≤ 2 ^ 24 → HasValue (of_int binary32 z) (negative z) (nat_abs z) 1
unfolding of_int
whole (pos n) h = round_whole binary32 false n h
whole (negsuc n) h = round_whole binary32 true (suc n) h

over : (s t : Bool) (a : ℕ) (x : Float) → HasValue x s a 1 → div binary32 x (fin t 1 (pos 14)) ≡ round binary32 (unlike s t) a 16384
unfolding div
over s t a nan h = absurd h
over s t a (inf u) h = absurd h
over s t a (fin u m e) h =
    round_same binary32 (unlike u t) (m * up e * 1) (16384 * down e) a 16384 (mul-pos (zero-lt-suc 16383) (down_pos e)) (zero-lt-suc 16383) (same (m * up e) (down e) h.1)
    ∙ ap (λ (r : Bool). round binary32 (unlike r t) a 16384) h.0
  where
    same : (x d : ℕ) → x * 1 ≡ a * d → x * 1 * 16384 ≡ a * (16384 * d)
    same x d h = ap (λ (y : ℕ). y * 16384) h ∙ mul_assoc a d 16384 ∙ ap (λ (y : ℕ). a * y) (mul_comm d 16384)

-- a factor and a divisor of one sign leave a number its own sign, but zero has the divisor's
sign_kept : (d k : ℤ) (t : Bool) → 0 < nat_abs k → negative k ≡ t → unlike (negative (pos 0 *ℤ k)) t ≡ false → unlike (negative (d *ℤ k)) t ≡ negative d
sign_kept (pos zero) k t some same plus = plus
sign_kept (pos (suc n)) (pos j) t some same plus = ap (unlike false) (sym same)
sign_kept (pos (suc n)) (negsuc j) t some same plus = λ i. unlike (negative (times_below n j i)) (sym same i)
sign_kept (negsuc n) (pos zero) t some same plus = absurd (lt_irrefl 0 some)
sign_kept (negsuc n) (pos (suc j)) t some same plus = λ i. unlike (negative (times_below n j i)) (sym same i)
sign_kept (negsuc n) (negsuc j) t some same plus = ap (unlike false) (sym same)

-- d times a factor of 5 or of -5, in its word
module _ (d : ℤ) (few : nat_abs d < 16384) (k : ℤ) (five : nat_abs k ≡ 5) where
  size : nat_abs (d *ℤ k) ≡ nat_abs d * 5
  size = size_times d k ∙ ap (λ (x : ℕ). nat_abs d * x) five

  fits : SFits w32 (d *ℤ k)
  fits = small_fits (d *ℤ k) (omega (arith, size))

  times : to_z w32 (of_z w32 d) *ℤ k ≡ d *ℤ k
  times = ap (λ (z : ℤ). z *ℤ k) (kept d d refl (few_fit d few))

  word : to_z w32 (of_z w32 (to_z w32 (of_z w32 d) *ℤ k)) ≡ d *ℤ k
  word = kept (to_z w32 (of_z w32 d) *ℤ k) (d *ℤ k) times fits

  pub product_fits : SFits w32 (to_z w32 (of_z w32 d) *ℤ k)
  product_fits = subst (SFits w32) (sym times) fits

  pub product_in_float : T (in_float binary32 (to_z w32 (of_z w32 (to_z w32 (of_z w32 d) *ℤ k))))
  product_in_float = subst (λ (z : ℤ). T (in_float binary32 z)) (sym word) (in_float_lem (d *ℤ k) (omega (arith, size)))

  pub quotient : (t : Bool) → negative k ≡ t → unlike (negative (pos 0 *ℤ k)) t ≡ false
      → div binary32 (of_int binary32 (to_z w32 (of_z w32 (to_z w32 (of_z w32 d) *ℤ k)))) (fin t 1 (pos 14)) ≡ volts_of d
  unfolding volts_of
  quotient t same plus =
      ap (λ (z : ℤ). div binary32 (of_int binary32 z) (fin t 1 (pos 14))) word
      ∙ over (negative (d *ℤ k)) t (nat_abs (d *ℤ k)) (of_int binary32 (d *ℤ k)) (whole (d *ℤ k) (omega (arith, size)))
      ∙ (λ i. round binary32 (sign_kept d k t (omega (arith, five)) same plus i) (size i) 16384)
