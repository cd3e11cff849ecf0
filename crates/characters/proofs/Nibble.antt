-- Laws of nibbles and their words: the true bits of a nibble's word are the nibble, and two nibbles' words differ in twice as many bits as the nibbles.
use mathlib.Core.Path.{◌≡◌, refl, sym, ap, ◌∙◌}
use mathlib.Core.Bool.{Bool, true, false}
use Prim.Native.Nat.{ℕ, zero, suc, ◌+◌, ◌*◌, ◌/◌, ◌^◌, ◌<◌, ◌≤◌}
use native.Mathlib.Nat.{mod-lt, zero-lt-suc}
use native.Mathlib.Omega.{arith}
use lib.Bits.{bit_xor}
use lib.Count.{ones, ones_in}
use lib.Dec.{eqb}
use borrow.Author.Tests.{eqb-true, eq-eqb}
use Rattle.ground.specs.Sweep.{every}
use Rattle.ground.proofs.Test.{refuted, same_way}
use Rattle.ground.proofs.Sweep.{swept, found, passes}
use Rattle.characters.specs.Character.{bit, parity_bit, word_of, preamble, stop}
use Rattle.characters.specs.Nibble.{followed, nibble_data, nibble_word, is_nibble, true_bits}

-- the framing characters carry the data that the document names
preamble_word : preamble ≡ word_of 0x15
unfolding word_of
preamble_word = refl

stop_word : stop ≡ word_of 0x54
unfolding word_of
stop_word = refl

pub true_bits_lt : (w : ℕ) → true_bits w < 16
true_bits_lt w = omega arith

-- ---- encoding, then decoding: one test of the sixteen nibbles

sound : ℕ → Bool
sound n = eqb (true_bits (nibble_word n)) n

all_sound : every sound 16 ≡ true
unfolding sound nibble_word word_of
all_sound = refl

pub true_bits_of : (n : ℕ) → n < 16 → true_bits (nibble_word n) ≡ n
unfolding sound
true_bits_of n h = eqb-true (true_bits (nibble_word n)) n (swept sound 16 all_sound n h)

pub nibble_nibble : (n : ℕ) → n < 16 → is_nibble (nibble_word n) ≡ true
unfolding is_nibble
nibble_nibble n h = passes (λ m. eqb (nibble_word n) (nibble_word m)) 16 n h (eq-eqb (nibble_word n) (nibble_word n) refl)

-- ---- decoding, then encoding

-- a word is a nibble's where it is the word of its own true bits
pub is_nibble_is : (w : ℕ) → is_nibble w ≡ eqb (nibble_word (true_bits w)) w
unfolding is_nibble
is_nibble_is w =
    same_way (is_nibble w) (eqb (nibble_word (true_bits w)) w)
    (λ e. found (λ n. eqb w (nibble_word n)) 16 e (λ n h is. eq-eqb (nibble_word (true_bits w)) w (own n h (eqb-true w (nibble_word n) is))))
    (λ e. passes (λ n. eqb w (nibble_word n)) 16 (true_bits w) (true_bits_lt w) (eq-eqb w (nibble_word (true_bits w)) (sym (eqb-true (nibble_word (true_bits w)) w e))))
  where
    own : (n : ℕ) → n < 16 → w ≡ nibble_word n → nibble_word (true_bits w) ≡ w
    own n h is = ap nibble_word (ap true_bits is ∙ true_bits_of n h) ∙ sym is

-- a nibble's word is the word of its true bits
pub nibble_word_lem : (w : ℕ) → is_nibble w ≡ true → w ≡ nibble_word (true_bits w)
nibble_word_lem w e = sym (eqb-true (nibble_word (true_bits w)) w (sym (is_nibble_is w) ∙ e))

-- ---- distance: two nibbles' words differ in twice as many bits as the nibbles

doubled : ℕ → ℕ → Bool
doubled a b = eqb (ones (bit_xor (nibble_word a) (nibble_word b))) (2 * ones (bit_xor a b))

all_doubled : every (λ a. every (doubled a) 16) 16 ≡ true
unfolding doubled nibble_word word_of ones ones_in
all_doubled = refl

pub word_distance : (a b : ℕ) → a < 16 → b < 16 → ones (bit_xor (nibble_word a) (nibble_word b)) ≡ 2 * ones (bit_xor a b)
unfolding doubled
word_distance a b ha hb =
    eqb-true (ones (bit_xor (nibble_word a) (nibble_word b))) (2 * ones (bit_xor a b))
    (swept (doubled a) 16 (swept (λ a. every (doubled a) 16) 16 all_doubled a ha) b hb)

-- ---- the word of any number is a word

followed_lt : (b : ℕ) → b < 2 → followed b < 3
followed_lt zero h = omega arith
followed_lt (suc b) h = omega arith

data_lt : (a b c d : ℕ) → a < 3 → b < 3 → c < 3 → d < 3 → a + 4 * b + 16 * c + 64 * d < 256
data_lt a b c d = λ ha hb hc hd. omega arith

word_lt : (d p : ℕ) → d < 256 → p < 2 → d * 2 + p * 2 ^ 9 + 2 ^ 10 + 2 ^ 11 < 4096
word_lt d p = λ hd hp. omega arith

bit_lt : (k n : ℕ) → bit k n < 2
bit_lt zero n = omega arith
bit_lt (suc k) n = mod-lt (n / 2 ^ suc k) (zero-lt-suc 1)

pub nibble_word_lt : (n : ℕ) → nibble_word n < 4096
unfolding nibble_word word_of
nibble_word_lt n =
    let eight = nibble_data n in
    word_lt eight (parity_bit eight)
    (data_lt (followed (bit 0 n)) (followed (bit 1 n)) (followed (bit 2 n)) (followed (bit 3 n)) (followed_lt (bit 0 n) (bit_lt 0 n))
    (followed_lt (bit 1 n) (bit_lt 1 n)) (followed_lt (bit 2 n) (bit_lt 2 n)) (followed_lt (bit 3 n) (bit_lt 3 n)))
    (mod-lt (bit 0 eight + bit 1 eight + bit 2 eight + bit 3 eight + bit 4 eight + bit 5 eight + bit 6 eight + bit 7 eight) (zero-lt-suc 1))

-- no word with high bits is a nibble's
pub high_bits : (w : ℕ) → 4096 ≤ w → is_nibble w ≡ false
high_bits w high = refuted (is_nibble w) (λ e. absurd (omega (arith, nibble_word_lem w e, nibble_word_lt (true_bits w))))
