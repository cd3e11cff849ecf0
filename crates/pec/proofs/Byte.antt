-- Laws of one byte of the PEC: it is linear, it keeps to bytes, it takes no state but 0 to 0, and table and shifts both do its eight bits at once.
use mathlib.Core.Path.{◌≡◌, refl, sym, ap, ap₂, ◌∙◌}
use mathlib.Core.Bool.{Bool, true, ◌&&◌, ◌||◌, cond}
use mathlib.Core.Logic.{⊎_elim}
use mathlib.Core.List.{List, [], ◌∷◌}
use Prim.Native.Nat.{ℕ, suc, ◌+◌, ◌-◌, ◌*◌, ◌/◌, ◌%◌, ◌^◌, ◌≤◌, ◌<◌}
use native.Mathlib.Nat.{mod-lt, zero-lt-suc, zero-add, div-le_self, mul-le-mul_right}
use native.Mathlib.Omega.{arith}
use mir.Syntax.{Width, w32}
use mir.Val.{Fits, bits}
use lib.Bits.{bit_xor, bit_and, xor_zero_r, xor_lt, and_le_r}
use lib.Dec.{eqb, ltb, lit<}
use lib.ListN.{get_or}
use borrow.Author.Tests.{ltb-true, eqb-true}
use Rattle.ground.specs.Sweep.{every}
use Rattle.ground.proofs.Test.{and_left, and_right, or_cases}
use Rattle.ground.proofs.Sweep.{swept, tabulated_at}
use Rattle.remainder.specs.Register.{times, run, shift, lowest_first, Linear, LinearIn}
use Rattle.remainder.specs.Turned.{Bytes}
use Rattle.remainder.proofs.Xor.{digit, xor_swap}
use Rattle.remainder.proofs.Linear.{times_linear, lowest_first_linear}
use Rattle.pec.specs.Pec.{poly, bit_step, byte_step, pec_of, remainder_table}

-- The constant is the polynomial's, x^8 + x^6 + x^3 + x^2 + 1 lowest bit first: x^e stands at bit 7 - e, and x^8 is the bit that falls out.
polynomial : poly ≡ 2 ^ (7 - 6) + 2 ^ (7 - 3) + 2 ^ (7 - 2) + 2 ^ (7 - 0)
polynomial = refl

-- the listing's bit is a shift, lowest bit first
bit_is_shift : (crc : ℕ) → bit_step crc ≡ lowest_first poly crc
unfolding bit_step shift
bit_is_shift crc =
    digit (λ (low : ℕ). cond (eqb low 1) (bit_xor (crc / 2) poly) (crc / 2) ≡ bit_xor (crc / 2) (low * poly))
    (sym (xor_zero_r (crc / 2))) refl (crc % 2) (mod-lt crc (zero-lt-suc 1))

pub bit_linear : Linear bit_step
bit_linear a b =
    bit_is_shift (bit_xor a b) ∙ lowest_first_linear poly a b ∙ sym (ap₂ bit_xor (bit_is_shift a) (bit_is_shift b))

pub byte_linear : LinearIn byte_step
unfolding byte_step
byte_linear a b x y = ap (times 8 bit_step) (xor_swap a b x y) ∙ times_linear bit_step bit_linear 8 (bit_xor a x) (bit_xor b y)

-- what eight bits make of a state
unfoldable pub eight_bits : ℕ → ℕ
eight_bits crc = times 8 bit_step crc

-- a byte that turns nothing over
pub byte_zero : (crc : ℕ) → byte_step crc 0 ≡ eight_bits crc
unfolding byte_step eight_bits
byte_zero crc = ap (times 8 bit_step) (xor_zero_r crc)

pub byte_is : (crc byte : ℕ) → byte_step crc byte ≡ eight_bits (bit_xor crc byte)
unfolding byte_step eight_bits
byte_is crc byte = refl

kept : ℕ → Bool
kept crc = ltb (eight_bits crc) 256 && (eqb crc 0 || ltb 0 (eight_bits crc))

all_kept : every kept 256 ≡ true
unfolding kept eight_bits times bit_step
all_kept = refl

pub eight_lt : (crc : ℕ) → crc < 256 → eight_bits crc < 256
unfolding kept
eight_lt crc h = ltb-true (eight_bits crc) 256 (and_left _ _ (swept kept 256 all_kept crc h))

-- no state but 0 becomes 0
pub eight_pos : (crc : ℕ) → 0 < crc → crc < 256 → 0 < eight_bits crc
unfolding kept
eight_pos crc p h =
    ⊎_elim (λ e. absurd (omega (arith, eqb-true crc 0 e))) (λ e. ltb-true 0 (eight_bits crc) e)
    (or_cases (eqb crc 0) _ (and_right (ltb (eight_bits crc) 256) _ (swept kept 256 all_kept crc h)))

-- a PEC is a byte
pub run_lt : (crc : ℕ) (bytes : List ℕ) → crc < 256 → Bytes bytes → run byte_step crc bytes < 256
unfolding run
run_lt crc [] h b = h
run_lt crc (x ∷ bytes) h b =
    run_lt (byte_step crc x) bytes (rw byte_is (eight_lt (bit_xor crc x) (xor_lt 8 crc x h (b 0)))) (λ i. b (suc i))

pub pec_lt : (bytes : List ℕ) → Bytes bytes → pec_of bytes < 256
unfolding pec_of
pec_lt bytes b = run_lt 0 bytes (lit< tt) b

-- the table's rule, carried to each entry: the remainder at the byte folded into the state is the state with the byte taken in
pub by_table : (crc byte : ℕ) → crc < 256 → byte < 256 → get_or remainder_table (bit_xor crc byte) 0 ≡ byte_step crc byte
unfolding byte_step
by_table crc byte small few =
    tabulated_at (times 8 bit_step) 256 0 (bit_xor crc byte) (xor_lt 8 crc byte small few) ∙ ap (times 8 bit_step) (zero-add (bit_xor crc byte))

-- ---- the PEC of a few bytes, one step after the other

pub three_steps : (x y z : ℕ) {e f g : ℕ} → e ≡ byte_step 0 x → f ≡ byte_step e y → g ≡ byte_step f z → g ≡ pec_of (x ∷ y ∷ z ∷ [])
unfolding pec_of run
three_steps x y z p q r = r ∙ ap (λ (s : ℕ). byte_step s z) (q ∙ ap (λ (s : ℕ). byte_step s y) p)

pub four_steps : (x y z w : ℕ) {e f g h : ℕ} → e ≡ byte_step 0 x → f ≡ byte_step e y → g ≡ byte_step f z → h ≡ byte_step g w
    → h ≡ pec_of (x ∷ y ∷ z ∷ w ∷ [])
unfolding pec_of run
four_steps x y z w p q r last = last ∙ ap (λ (s : ℕ). byte_step s w) (three_steps x y z p q r)

-- ---- eight bits at once, by shifts

-- a state brought together with itself moved up, cut down to a byte
abbrev up : (a b c : ℕ) → ℕ → ℕ
up a b c x = bit_and (bit_xor (bit_xor (bit_xor x (x * a)) (x * b)) (x * c)) 0xFF

-- and with itself moved down
abbrev down : (d e f : ℕ) → ℕ → ℕ
down d e f q = bit_xor (bit_xor (bit_xor q (q / d)) (q / e)) (q / f)

-- of what was cut down to a byte, a byte is left
pub down_lt : (d e f x : ℕ) → down d e f (bit_and x 0xFF) < 256
down_lt d e f x =
    let q = bit_and x 0xFF in
    let small : q < 256 = omega (arith, and_le_r x 0xFF) in
    let less : (k : ℕ) → q / k < 256 = λ k. omega (arith, div-le_self q k) in
    xor_lt 8 _ (q / f) (xor_lt 8 _ (q / e) (xor_lt 8 q (q / d) small (less d)) (less e)) (less f)

-- a byte folded into a state fits every width, and 32 bits moved up as well
pub folded_fits : (w : Width) (crc byte : ℕ) → 256 ≤ 2 ^ bits w → crc < 256 → byte < 256 → Fits w (bit_xor crc byte)
folded_fits w crc byte wide small few = record { fits = omega (arith, xor_lt 8 crc byte small few) }

pub up_fits : (crc byte k : ℕ) → crc < 256 → byte < 256 → k ≤ 256 → Fits w32 (bit_xor crc byte * k)
up_fits crc byte k small few near =
    let byte : bit_xor crc byte ≤ 255 = omega (arith, xor_lt 8 crc byte small few) in
    record { fits = omega (arith, mul-le-mul_right k byte) }

-- Whether these shifts do it, at each of the 256 states, is computed where the code names them.
module _ (a b c d e f : ℕ) where
  unfoldable pub shifts : ℕ → Bool
  shifts x = eqb (down d e f (up a b c x)) (eight_bits x)

  pub by_shifts : (crc byte : ℕ) → crc < 256 → byte < 256 → every shifts 256 ≡ true → down d e f (up a b c (bit_xor crc byte)) ≡ byte_step crc byte
  unfolding shifts
  by_shifts crc byte small few all =
      let x = bit_xor crc byte in
      eqb-true (down d e f (up a b c x)) (eight_bits x) (swept shifts 256 all x (xor_lt 8 crc byte small few)) ∙ sym (byte_is crc byte)
