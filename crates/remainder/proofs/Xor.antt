-- The algebra of xor on numbers, beyond what the library has: it associates, undoes itself, and tells equal numbers.
use mathlib.Core.Path.{◌≡◌, refl, sym, ap, ap₂, ◌∙◌}
use Prim.Native.Nat.{ℕ, zero, suc, ◌+◌, ◌*◌, ◌/◌, ◌%◌, ◌<◌}
use native.Mathlib.Nat.{mod-lt, zero-lt-suc}
use native.Mathlib.Omega.{arith}
use lib.Arith.{bin_ind}
use lib.Bits.{bit_xor, differ, xor_step, xor_shr, xor_mod, xor_comm, xor_self, xor_zero_r}

-- a binary digit is 0 or 1
pub digit : (P : ℕ → Type 0) → P 0 → P 1 → (x : ℕ) → x < 2 → P x
digit P p q zero h = p
digit P p q (suc zero) h = q
digit P p q (suc (suc x)) h = absurd (omega arith)

digit_assoc : (x y z : ℕ) → x < 2 → y < 2 → z < 2 → differ (bit_xor x y) z ≡ differ x (bit_xor y z)
digit_assoc x y z hx hy hz =
    digit (λ (x : ℕ). differ (bit_xor x y) z ≡ differ x (bit_xor y z))
    (digit (λ (y : ℕ). differ y z ≡ bit_xor y z) refl (digit (λ (z : ℕ). differ 1 z ≡ bit_xor 1 z) refl refl z hz) y hy)
    (digit (λ (y : ℕ). differ (bit_xor 1 y) z ≡ differ 1 (bit_xor y z)) refl
    (digit (λ (z : ℕ). differ 0 z ≡ differ 1 (bit_xor 1 z)) refl refl z hz) y hy) x hx

low : (n : ℕ) → n % 2 < 2
low n = mod-lt n (zero-lt-suc 1)

pub xor_assoc : (a b c : ℕ) → bit_xor (bit_xor a b) c ≡ bit_xor a (bit_xor b c)
xor_assoc =
    bin_ind (λ (n : ℕ). (b c : ℕ) → bit_xor (bit_xor n b) c ≡ bit_xor n (bit_xor b c)) (λ b c. refl)
    (λ n ih b c. xor_step (bit_xor n b) c
    ∙ ap₂ (λ (h l : ℕ). bit_xor h (c / 2) * 2 + differ l (c % 2)) (xor_shr n b 1) (xor_mod n b 1)
    ∙ ap₂ (λ (h l : ℕ). h * 2 + l) (ih (b / 2) (c / 2)) (digit_assoc (n % 2) (b % 2) (c % 2) (low n) (low b) (low c))
    ∙ ap₂ (λ (h l : ℕ). bit_xor (n / 2) h * 2 + differ (n % 2) l) (sym (xor_shr b c 1)) (sym (xor_mod b c 1))
    ∙ sym (xor_step n (bit_xor b c)))

-- what was turned over twice is as it was
pub xor_back : (a b : ℕ) → bit_xor a (bit_xor a b) ≡ b
xor_back a b = sym (xor_assoc a a b) ∙ ap (λ (x : ℕ). bit_xor x b) (xor_self a)

pub xor_zero_same : (a b : ℕ) → bit_xor a b ≡ 0 → a ≡ b
xor_zero_same a b e = sym (xor_zero_r a) ∙ ap (bit_xor a) (sym e) ∙ xor_back a b

pub xor_left_comm : (a b c : ℕ) → bit_xor a (bit_xor b c) ≡ bit_xor b (bit_xor a c)
xor_left_comm a b c = sym (xor_assoc a b c) ∙ ap (λ (x : ℕ). bit_xor x c) (xor_comm a b) ∙ xor_assoc b a c

-- the two sums of two sums
pub xor_swap : (a b c d : ℕ) → bit_xor (bit_xor a b) (bit_xor c d) ≡ bit_xor (bit_xor a c) (bit_xor b d)
xor_swap a b c d = xor_assoc a b (bit_xor c d) ∙ ap (bit_xor a) (xor_left_comm b c d) ∙ sym (xor_assoc a c (bit_xor b d))
