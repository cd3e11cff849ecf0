-- Both nibbles of a byte spread at once, by masks: one computed test of the 256 bytes.
use mathlib.Core.Path.{◌≡◌, refl}
use mathlib.Core.Bool.{Bool, true}
use Prim.Native.Nat.{ℕ, ◌+◌, ◌-◌, ◌*◌, ◌/◌, ◌%◌, ◌<◌, ◌≤◌}
use native.Mathlib.Omega.{arith}
use lib.Bits.{bit_and, bit_or, and_le_r}
use lib.Dec.{eqb}
use borrow.Author.Tests.{eqb-true}
use Rattle.ground.specs.Sweep.{every}
use Rattle.ground.proofs.Sweep.{swept}
use Rattle.characters.specs.Character.{word_of}
use Rattle.characters.specs.Nibble.{nibble_word}
use Rattle.characters.proofs.Nibble.{nibble_word_lt}

-- the nibbles apart, then two by two, then one by one
abbrev apart : ℕ → ℕ
apart x = bit_and (bit_or x (x * 4096)) 0xF000F

abbrev pairs : ℕ → ℕ
pairs x = bit_and (bit_or (apart x) (apart x * 4)) 0x330033

abbrev singles : ℕ → ℕ
singles x = bit_and (bit_or (pairs x) (pairs x * 2)) 0x550055

pub few_apart : (x : ℕ) → apart x ≤ 0xF000F
few_apart x = and_le_r (bit_or x (x * 4096)) 0xF000F

pub few_pairs : (x : ℕ) → pairs x ≤ 0x330033
few_pairs x = and_le_r (bit_or (apart x) (apart x * 4)) 0x330033

pub few_singles : (x : ℕ) → singles x ≤ 0x550055
few_singles x = and_le_r (bit_or (pairs x) (pairs x * 2)) 0x550055

spreads : ℕ → Bool
spreads b = eqb (0xD540D54 - 2 * singles b) (nibble_word (b % 16) + 65536 * nibble_word (b / 16))

all_spread : every spreads 256 ≡ true
unfolding spreads nibble_word word_of
all_spread = refl

pub two_words : (b : ℕ) → b < 256 → 0xD540D54 - 2 * singles b ≡ nibble_word (b % 16) + 65536 * nibble_word (b / 16)
unfolding spreads
two_words b h = eqb-true (0xD540D54 - 2 * singles b) _ (swept spreads 256 all_spread b h)

-- each word is a half of the number
pub halves : (b both : ℕ) → both ≡ nibble_word (b % 16) + 65536 * nibble_word (b / 16)
    → (both % 65536 ≡ nibble_word (b % 16)) × (both / 65536 ≡ nibble_word (b / 16))
halves b both e =
    (omega (arith, nibble_word_lt (b % 16)), omega (arith, nibble_word_lt (b % 16)))
