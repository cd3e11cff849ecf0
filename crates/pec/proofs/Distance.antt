-- The distance of the PEC, over any start state. Two different lists of bytes of equal length, together with their two
-- remainders, differ in at least two bits; up to 29 bytes, in at least three.
use mathlib.Core.Path.{◌≡◌, refl, sym, ap, ap₂, ◌∙◌}
use mathlib.Core.Bool.{Bool, true, ◌&&◌, ◌||◌}
use mathlib.Core.Logic.{⊎_elim}
use mathlib.Core.List.{List, [], ◌∷◌}
use Prim.Native.Nat.{ℕ, zero, suc, ◌+◌, ◌≤◌, ◌<◌}
use native.Mathlib.Nat.{le_refl, le_of_suc-le-suc}
use native.Mathlib.Omega.{arith}
use lib.Bits.{bit_xor, xor_self, xor_lt}
use lib.Count.{ones, ones_in}
use lib.Dec.{eqb, leb}
use lib.ListN.{length}
use borrow.Author.Tests.{leb-true, eqb-true}
use Rattle.ground.specs.Sweep.{every}
use Rattle.ground.proofs.Test.{and_left, and_right, or_cases}
use Rattle.ground.proofs.Sweep.{swept}
use Rattle.remainder.specs.Register.{run, times}
use Rattle.remainder.specs.Turned.{turned, weight, Bytes}
use Rattle.remainder.proofs.Xor.{xor_zero_same}
use Rattle.remainder.proofs.Linear.{run_linear}
use Rattle.remainder.proofs.Turned.{some_bit, no_distance, distance_is, length_turned, turned_bytes}
use Rattle.pec.specs.Pec.{bit_step, byte_step}
use Rattle.pec.specs.Distance.{apart_by, few_bytes}
use Rattle.pec.proofs.Byte.{eight_bits, byte_zero, byte_is, byte_linear, eight_lt, eight_pos}

-- ---- the bits of some masks and of the state that they lead to

-- the masks' bits, and those of the state that the masks lead to
left : ℕ → List ℕ → ℕ
left crc masks = weight masks + ones (run byte_step crc masks)

-- from a state that is not 0, one bit is left at least
one_left : (crc : ℕ) (masks : List ℕ) → 0 < crc → crc < 256 → Bytes masks → 1 ≤ left crc masks
unfolding left weight run
one_left crc [] p h b = omega (arith, some_bit crc p)
one_left crc (zero ∷ masks) p h b =
    let next : 1 ≤ left (byte_step crc 0) masks =
    rw byte_zero (one_left (eight_bits crc) masks (eight_pos crc p h) (eight_lt crc h) (λ i. b (suc i))) in
    omega arith
one_left crc (suc m ∷ masks) p h b = omega (arith, some_bit (suc m) (omega arith))

-- from a state that takes n bytes of 0 without ever coming down to one bit, two bits are left at least after n bytes
far : ℕ → ℕ → Bool
far zero crc = leb 2 (ones crc)
far (suc n) crc = leb 2 (ones crc) && far n (eight_bits crc)

far_now : (n crc : ℕ) → far n crc ≡ true → 2 ≤ ones crc
unfolding far
far_now zero crc e = leb-true 2 (ones crc) e
far_now (suc n) crc e = leb-true 2 (ones crc) (and_left _ (far n (eight_bits crc)) e)

-- a mask that meets the state: it is the state, or a state other than 0 goes on
met : (crc m : ℕ) (masks : List ℕ) → 2 ≤ ones crc → crc < 256 → 0 < m → m < 256 → Bytes masks → 2 ≤ ones m + left (byte_step crc m) masks
met crc m masks two h p l b = by_difference (bit_xor crc m) refl
  where
    by_difference : (d : ℕ) → bit_xor crc m ≡ d → 2 ≤ ones m + left (byte_step crc m) masks
    by_difference zero e = omega (arith, ap ones (xor_zero_same crc m e))
    by_difference (suc d) e =
        let on : 0 < bit_xor crc m = omega arith in
        let small : bit_xor crc m < 256 = xor_lt 8 crc m h l in
        let next : 1 ≤ left (byte_step crc m) masks =
        rw byte_is (one_left (eight_bits (bit_xor crc m)) masks (eight_pos (bit_xor crc m) on small) (eight_lt (bit_xor crc m) small) b) in
        omega (arith, some_bit m p)

two_left : (n crc : ℕ) (masks : List ℕ) → far n crc ≡ true → crc < 256 → length masks ≤ n → Bytes masks → 2 ≤ left crc masks
unfolding far left weight run
two_left n crc [] e h s b = omega (arith, far_now n crc e)
two_left zero crc (m ∷ masks) e h s b = absurd (omega arith)
two_left (suc n) crc (zero ∷ masks) e h s b =
    let next : 2 ≤ left (byte_step crc 0) masks =
    rw byte_zero (two_left n (eight_bits crc) masks (and_right (leb 2 (ones crc)) _ e) (eight_lt crc h) (le_of_suc-le-suc s) (λ i. b (suc i))) in
    omega arith
two_left (suc n) crc (suc m ∷ masks) e h s b =
    omega (arith, met crc (suc m) masks (far_now (suc n) crc e) h (omega arith) (b 0) (λ i. b (suc i)))

-- ---- from the start state: two bits, and three up to 29 bytes

-- Bytes of 0 leave the start state as it is, so all turns on the first byte that turns something over.
module _ (bits most : ℕ)
    (first : (m : ℕ) (rest : List ℕ) → 0 < m → m < 256 → suc (length rest) ≤ most → Bytes rest → bits ≤ ones m + left (eight_bits m) rest) where
  from_first : (masks : List ℕ) → length masks ≤ most → 0 < weight masks → Bytes masks → bits ≤ left 0 masks
  unfolding left weight run byte_step eight_bits times bit_step ones ones_in
  from_first [] s p b = absurd (omega arith)
  from_first (zero ∷ masks) s p b =
      let next : bits ≤ left 0 masks = from_first masks (omega arith) (omega arith) (λ i. b (suc i)) in
      omega arith
  from_first (suc m ∷ masks) s p b = omega (arith, first (suc m) masks (omega arith) (b 0) s (λ i. b (suc i)))

one_after : (m : ℕ) (rest : List ℕ) → 0 < m → m < 256 → Bytes rest → 1 ≤ left (eight_bits m) rest
one_after m rest p h b = one_left (eight_bits m) rest (eight_pos m p h) (eight_lt m h) b

-- a first byte turns over two bits, or leads to a state that stays away from single bits for so many bytes more
apart : ℕ → Bool
apart m = eqb m 0 || leb 2 (ones m) || far few_bytes (eight_bits m)

all_apart : every apart 256 ≡ true
unfolding apart far eight_bits times bit_step ones ones_in
all_apart = refl

three_after : (m : ℕ) (rest : List ℕ) → 0 < m → m < 256 → suc (length rest) ≤ few_bytes → Bytes rest → 3 ≤ ones m + left (eight_bits m) rest
unfolding apart
three_after m rest p h s b =
    ⊎_elim
    (λ e. ⊎_elim (λ e. absurd (omega (arith, eqb-true m 0 e)))
    (λ e. omega (arith, leb-true 2 (ones m) e, one_after m rest p h b)) (or_cases (eqb m 0) (leb 2 (ones m)) e))
    (λ e. omega (arith, some_bit m p, two_left few_bytes (eight_bits m) rest e (eight_lt m h) (omega arith) b))
    (or_cases (eqb m 0 || leb 2 (ones m)) (far few_bytes (eight_bits m)) (swept apart 256 all_apart m h))

-- ---- the two laws

-- the start state cancels: only the bits that differ count
only_masks : (start : ℕ) (xs ys : List ℕ) → length xs ≡ length ys → apart_by start xs ys ≡ left 0 (turned xs ys)
unfolding apart_by left
only_masks start xs ys e =
    ap₂ (λ (d r : ℕ). d + ones r) (distance_is xs ys e)
    (sym (run_linear byte_step byte_linear start start xs ys e) ∙ ap (λ (c : ℕ). run byte_step c (turned xs ys)) (xor_self start))

some_mask : (xs ys : List ℕ) → length xs ≡ length ys → (xs ≡ ys → ⊥) → 0 < weight (turned xs ys)
some_mask xs ys e differ = by_count (weight (turned xs ys)) refl
  where
    by_count : (k : ℕ) → weight (turned xs ys) ≡ k → 0 < weight (turned xs ys)
    by_count zero w = absurd (differ (no_distance xs ys e (distance_is xs ys e ∙ w)))
    by_count (suc k) w = omega arith

-- what holds of the first byte that turns something over, carried to two lists
carried : (bits most : ℕ)
    → ((m : ℕ) (rest : List ℕ) → 0 < m → m < 256 → suc (length rest) ≤ most → Bytes rest → bits ≤ ones m + left (eight_bits m) rest)
    → (start : ℕ) (xs ys : List ℕ) → length xs ≡ length ys → length xs ≤ most → Bytes xs → Bytes ys → (xs ≡ ys → ⊥) → bits ≤ apart_by start xs ys
carried bits most first start xs ys e s hx hy differ =
    rw (only_masks start xs ys e)
    (from_first bits most first (turned xs ys) (omega (arith, length_turned xs ys)) (some_mask xs ys e differ)
    (turned_bytes xs ys hx hy))

-- Two different lists of bytes of one length: they and their remainders are two bits apart at least.
pub distance_two : (start : ℕ) (xs ys : List ℕ) → length xs ≡ length ys → Bytes xs → Bytes ys → (xs ≡ ys → ⊥) → 2 ≤ apart_by start xs ys
distance_two start xs ys e =
    carried 2 (length xs) (λ m rest p h s b. omega (arith, some_bit m p, one_after m rest p h b)) start xs ys e (le_refl (length xs))

-- Of 29 bytes or fewer: three bits at least.
pub distance_three : (start : ℕ) (xs ys : List ℕ) → length xs ≡ length ys → length xs ≤ few_bytes → Bytes xs → Bytes ys → (xs ≡ ys → ⊥)
    → 3 ≤ apart_by start xs ys
distance_three = carried 3 few_bytes three_after
