-- Bits turned over and bits that differ: turning over the difference of two lists leads from one to the other, and lists that
-- differ in no bit are the same.
use mathlib.Core.Path.{◌≡◌, refl, ap, ap₂, ◌∙◌}
use mathlib.Core.List.{List, [], ◌∷◌, ◌++◌}
use Prim.Native.Nat.{ℕ, zero, suc, ◌+◌, ◌/◌, ◌<◌}
use native.Mathlib.Nat.{div-add-mod', suc_inj}
use native.Mathlib.Omega.{arith}
use lib.Arith.{bin_ind}
use lib.Bits.{bit_xor, xor_lt, xor_self}
use lib.Count.{ones, ones_in, ones_step}
use lib.ListN.{length}
use Rattle.remainder.specs.Turned.{turned, weight, distance, Bytes}
use Rattle.remainder.proofs.Xor.{xor_back, xor_zero_same}

pub no_ones : ones 0 ≡ 0
unfolding ones ones_in
no_ones = refl

-- a number with no bit set is 0
pub no_bits : (n : ℕ) → ones n ≡ 0 → n ≡ 0
no_bits =
    bin_ind (λ (n : ℕ). ones n ≡ 0 → n ≡ 0) (λ e. refl)
    (λ n ih e. let s = ones_step n in let h : n / 2 ≡ 0 = ih (omega arith) in omega (arith, div-add-mod' n 2))

pub some_bit : (n : ℕ) → 0 < n → 0 < ones n
some_bit n p = by_count (ones n) refl
  where
    by_count : (k : ℕ) → ones n ≡ k → 0 < ones n
    by_count zero e = absurd (omega (arith, no_bits n e))
    by_count (suc k) e = omega arith

pub distance_is : (xs ys : List ℕ) → length xs ≡ length ys → distance xs ys ≡ weight (turned xs ys)
unfolding distance weight turned
distance_is [] [] e = refl
distance_is [] (y ∷ ys) e = absurd (omega arith)
distance_is (x ∷ xs) [] e = absurd (omega arith)
distance_is (x ∷ xs) (y ∷ ys) e = ap (λ (n : ℕ). ones (bit_xor x y) + n) (distance_is xs ys (suc_inj e))

pub length_turned : (xs masks : List ℕ) → length (turned xs masks) ≡ length xs
unfolding turned
length_turned [] masks = refl
length_turned (x ∷ xs) [] = refl
length_turned (x ∷ xs) (m ∷ masks) = ap suc (length_turned xs masks)

-- lists that differ in no bit are the same
pub no_distance : (xs ys : List ℕ) → length xs ≡ length ys → distance xs ys ≡ 0 → xs ≡ ys
unfolding distance
no_distance [] [] e d = refl
no_distance [] (y ∷ ys) e d = absurd (omega arith)
no_distance (x ∷ xs) [] e d = absurd (omega arith)
no_distance (x ∷ xs) (y ∷ ys) e d =
    ap₂ (λ (z : ℕ) (zs : List ℕ). z ∷ zs) (xor_zero_same x y (no_bits (bit_xor x y) (omega arith)))
    (no_distance xs ys (suc_inj e) (omega arith))

-- bytes stay bytes
pub turned_bytes : (xs masks : List ℕ) → Bytes xs → Bytes masks → Bytes (turned xs masks)
unfolding turned
turned_bytes [] masks hx hm i = hx i
turned_bytes (x ∷ xs) [] hx hm i = hx i
turned_bytes (x ∷ xs) (m ∷ masks) hx hm zero = xor_lt 8 x m (hx 0) (hm 0)
turned_bytes (x ∷ xs) (m ∷ masks) hx hm (suc i) = turned_bytes xs masks (λ k. hx (suc k)) (λ k. hm (suc k)) i

-- ---- distance along a list

pub distance_self : (xs : List ℕ) → distance xs xs ≡ 0
unfolding distance
distance_self [] = refl
distance_self (x ∷ xs) = ap₂ ◌+◌ (ap ones (xor_self x) ∙ no_ones) (distance_self xs)

pub distance_append : (xs ys zs ws : List ℕ) → length xs ≡ length ys → distance (xs ++ zs) (ys ++ ws) ≡ distance xs ys + distance zs ws
unfolding distance
distance_append [] [] zs ws e = omega arith
distance_append [] (y ∷ ys) zs ws e = absurd (omega arith)
distance_append (x ∷ xs) [] zs ws e = absurd (omega arith)
distance_append (x ∷ xs) (y ∷ ys) zs ws e = let rest = distance_append xs ys zs ws (suc_inj e) in omega arith

-- a list and the same list with some bits turned over differ in those bits
pub distance_turned : (xs masks : List ℕ) → length masks ≡ length xs → distance xs (turned xs masks) ≡ weight masks
unfolding distance turned weight
distance_turned [] [] e = refl
distance_turned [] (m ∷ masks) e = absurd (omega arith)
distance_turned (x ∷ xs) [] e = absurd (omega arith)
distance_turned (x ∷ xs) (m ∷ masks) e = ap₂ ◌+◌ (ap ones (xor_back x m)) (distance_turned xs masks (suc_inj e))
