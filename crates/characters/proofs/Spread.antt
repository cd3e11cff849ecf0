-- Four bits spread over the data bits of a character, and brought together again, by masks: each rule by one computed test of all it looks at.
use mathlib.Core.Path.{◌≡◌, refl, sym, ap, ap₂, ◌∙◌}
use mathlib.Core.Bool.{Bool, true}
use Prim.Native.Nat.{ℕ, ◌+◌, ◌-◌, ◌*◌, ◌/◌, ◌%◌, ◌<◌, ◌≤◌}
use native.Mathlib.Nat.{mod-lt, mod-eq_of_lt, zero-lt-suc}
use native.Mathlib.Omega.{arith}
use lib.Bits.{bit_and, bit_or, and_mod, and_le_r}
use lib.Dec.{eqb}
use borrow.Author.Tests.{eqb-true}
use Rattle.ground.specs.Sweep.{every}
use Rattle.ground.proofs.Sweep.{swept}
use Rattle.characters.specs.Character.{word_of}
use Rattle.characters.specs.Nibble.{nibble_word, true_bits}

-- ---- spread: two by two, then one by one

abbrev pub pairs : ℕ → ℕ
pairs n = bit_and (bit_or (n % 16) (n % 16 * 4)) 0x33

abbrev pub singles : ℕ → ℕ
singles n = bit_and (bit_or (pairs n) (pairs n * 2)) 0x55

pub few_pairs : (n : ℕ) → pairs n ≤ 0x33
few_pairs n = and_le_r (bit_or (n % 16) (n % 16 * 4)) 0x33

pub few_singles : (n : ℕ) → singles n ≤ 0x55
few_singles n = and_le_r (bit_or (pairs n) (pairs n * 2)) 0x55

spreads : ℕ → Bool
spreads n = eqb (0xD54 - 2 * singles n) (nibble_word n)

all_spread : every spreads 256 ≡ true
unfolding spreads nibble_word word_of
all_spread = refl

pub spread : (n : ℕ) → n < 256 → 0xD54 - 2 * singles n ≡ nibble_word n
unfolding spreads
spread n h = eqb-true (0xD54 - 2 * singles n) (nibble_word n) (swept spreads 256 all_spread n h)

-- ---- gathered: one by one, then two by two

abbrev halves : ℕ → ℕ
halves x = bit_and (bit_or x (x / 2)) 0x33

abbrev gathered : ℕ → ℕ
gathered x = bit_and (bit_or (halves x) (halves x / 4)) 0xF

pub few_gathered : (x : ℕ) → gathered x ≤ 0xF
few_gathered x = and_le_r (bit_or (halves x) (halves x / 4)) 0xF

gathers : ℕ → Bool
gathers y = eqb (gathered (bit_and y 0x55)) (y % 2 + y / 4 % 2 * 2 + y / 16 % 2 * 4 + y / 64 % 2 * 8)

all_gather : every gathers 256 ≡ true
unfolding gathers
all_gather = refl

-- the mask looks at eight bits alone
eight_bits : (x : ℕ) → bit_and x 0x55 ≡ bit_and (x % 256) 0x55
eight_bits x =
    let small : bit_and x 0x55 < 256 = omega (arith, and_le_r x 0x55) in
    sym (mod-eq_of_lt small) ∙ and_mod x 0x55 8

-- and those are the word's bits 1, 3, 5 and 7
blocks : (q y : ℕ) → ((q * 256 + y) % 2 ≡ y % 2) × ((q * 256 + y) / 4 % 2 ≡ y / 4 % 2) × ((q * 256 + y) / 16 % 2 ≡ y / 16 % 2) × ((q * 256 + y) / 64 % 2 ≡ y / 64 % 2)
blocks q y = (omega arith, omega arith, omega arith, omega arith)

data_bits : (w : ℕ)
    → let y = w / 2 % 256 in y % 2 + y / 4 % 2 * 2 + y / 16 % 2 * 4 + y / 64 % 2 * 8 ≡ true_bits w
data_bits w =
    let whole : w / 2 / 256 * 256 + w / 2 % 256 ≡ w / 2 = omega arith in
    let at = blocks (w / 2 / 256) (w / 2 % 256) in
    let second : w / 2 / 4 ≡ w / 8 = omega arith in
    let third : w / 2 / 16 ≡ w / 32 = omega arith in
    let fourth : w / 2 / 64 ≡ w / 128 = omega arith in
    ap₂ (λ (x y : ℕ). x + y * 8)
    (ap₂ (λ (x y : ℕ). x + y * 4)
    (ap₂ (λ (x y : ℕ). x + y * 2) (sym at.0 ∙ ap (λ (x : ℕ). x % 2) whole) (sym at.1 ∙ ap (λ (x : ℕ). x / 4 % 2) whole ∙ ap (λ (x : ℕ). x % 2) second))
    (sym at.2 ∙ ap (λ (x : ℕ). x / 16 % 2) whole ∙ ap (λ (x : ℕ). x % 2) third))
    (sym at.3 ∙ ap (λ (x : ℕ). x / 64 % 2) whole ∙ ap (λ (x : ℕ). x % 2) fourth)

pub gather : (w : ℕ) → gathered (bit_and (w / 2) 0x55) ≡ true_bits w
unfolding gathers
gather w =
    let y = w / 2 % 256 in
    ap gathered (eight_bits (w / 2))
    ∙ eqb-true (gathered (bit_and y 0x55)) _ (swept gathers 256 all_gather y (mod-lt (w / 2) (zero-lt-suc 255)))
    ∙ data_bits w
