-- Shifts in either bit order, any number of them, and a whole list taken in, are linear.
use mathlib.Core.Path.{◌≡◌, refl, sym, ap, ap₂, ◌∙◌}
use mathlib.Core.List.{List, [], ◌∷◌}
use Prim.Native.Nat.{ℕ, zero, suc, ◌*◌, ◌/◌, ◌%◌, ◌^◌, ◌<◌}
use native.Mathlib.Nat.{mod-lt, zero-lt-suc, zero-mul, add-zero, suc_inj}
use native.Mathlib.Omega.{arith}
use lib.ListN.{length}
use lib.Bits.{bit_xor, xor_shr, xor_mod, xor_self, xor_zero_r, xor_block}
use lib.Pow.{pow_pos}
use Rattle.remainder.specs.Turned.{turned}
use Rattle.remainder.specs.Register.{times, shift, lowest_first, highest_first, run, Linear, LinearIn}
use Rattle.remainder.proofs.Xor.{digit, xor_swap}

pub zero_stays : (f : ℕ → ℕ) → Linear f → f 0 ≡ 0
zero_stays f h = h 0 0 ∙ xor_self (f 0)

pub times_linear : (f : ℕ → ℕ) → Linear f → (n : ℕ) → Linear (times n f)
unfolding times
times_linear f h zero a b = refl
times_linear f h (suc n) a b = ap (times n f) (h a b) ∙ times_linear f h n (f a) (f b)

-- a digit times the constant
digit_times : (k x y : ℕ) → x < 2 → y < 2 → bit_xor x y * k ≡ bit_xor (x * k) (y * k)
digit_times k x y hx hy =
    digit (λ (x : ℕ). bit_xor x y * k ≡ bit_xor (x * k) (y * k)) (sym (ap (λ (z : ℕ). bit_xor z (y * k)) (zero-mul k)))
    (digit (λ (y : ℕ). bit_xor 1 y * k ≡ bit_xor (1 * k) (y * k)) (sym (ap (bit_xor (1 * k)) (zero-mul k) ∙ xor_zero_r (1 * k)))
    (zero-mul k ∙ sym (xor_self (1 * k))) y hy) x hx

-- a shift is linear where what is left is, and where what falls out is one bit
pub shift_linear : (rest out : ℕ → ℕ) (constant : ℕ) → Linear rest → Linear out → ((c : ℕ) → out c < 2)
    → Linear (shift rest out constant)
unfolding shift
shift_linear rest out k hr ho h2 a b =
    ap₂ (λ (x y : ℕ). bit_xor x (y * k)) (hr a b) (ho a b)
    ∙ ap (bit_xor (bit_xor (rest a) (rest b))) (digit_times k (out a) (out b) (h2 a) (h2 b))
    ∙ xor_swap (rest a) (rest b) (out a * k) (out b * k)

pub lowest_first_linear : (constant : ℕ) → Linear (lowest_first constant)
lowest_first_linear k =
    shift_linear (λ c. c / 2) (λ c. c % 2) k (λ a b. xor_shr a b 1) (λ a b. xor_mod a b 1) (λ c. mod-lt c (zero-lt-suc 1))

-- moving up by k bits
pub scale_linear : (k : ℕ) → Linear (λ c. c * 2 ^ k)
scale_linear k a b =
    sym (ap₂ bit_xor (sym (add-zero (a * 2 ^ k))) (sym (add-zero (b * 2 ^ k))) ∙ xor_block k a b 0 0 (pow_pos k) (pow_pos k)
    ∙ add-zero (bit_xor a b * 2 ^ k))

pub highest_first_linear : (k constant : ℕ) → Linear (highest_first k constant)
highest_first_linear k constant =
    shift_linear (λ c. c * 2 % 2 ^ suc k) (λ c. c / 2 ^ k % 2) constant
    (λ a b. ap (λ (x : ℕ). x % 2 ^ suc k) (scale_linear 1 a b) ∙ xor_mod (a * 2) (b * 2) (suc k))
    (λ a b. ap (λ (x : ℕ). x % 2) (xor_shr a b k) ∙ xor_mod (a / 2 ^ k) (b / 2 ^ k) 1)
    (λ c. mod-lt (c / 2 ^ k) (zero-lt-suc 1))

-- two lists of equal length from two start states
pub run_linear : (step : ℕ → ℕ → ℕ) → LinearIn step → (a b : ℕ) (xs ys : List ℕ) → length xs ≡ length ys
    → run step (bit_xor a b) (turned xs ys) ≡ bit_xor (run step a xs) (run step b ys)
unfolding run turned
run_linear step h a b [] [] e = refl
run_linear step h a b [] (y ∷ ys) e = absurd (omega arith)
run_linear step h a b (x ∷ xs) [] e = absurd (omega arith)
run_linear step h a b (x ∷ xs) (y ∷ ys) e =
    ap (λ (c : ℕ). run step c (turned xs ys)) (h a b x y)
    ∙ run_linear step h (step a x) (step b y) xs ys (suc_inj e)
