-- A nibble's word told by masks: framed, with no parity bit and no high bits, and each bit followed by its complement. One computed test of
-- the words without high bits shows it.
use mathlib.Core.Path.{◌≡◌, sym, ap, ◌∙◌}
use mathlib.Core.Bool.{Bool, true, false, ◌&&◌, beq}
use mathlib.Core.Logic.{⊎_elim}
use Prim.Native.Nat.{ℕ, ◌-◌, ◌/◌, ◌%◌, ◌^◌, ◌<◌}
use native.Mathlib.Omega.{arith}
use lib.Bits.{bit_xor, bit_and, and_mask, and_shr}
use lib.Dec.{eqb}
use borrow.Author.Tests.{eq-eqb, ne_eqb}
use Rattle.ground.specs.Sweep.{every}
use Rattle.ground.proofs.Test.{below_or_not, same_truth}
use Rattle.ground.proofs.Sweep.{swept}
use Rattle.characters.specs.Nibble.{nibble_word, true_bits, is_nibble}
use Rattle.characters.proofs.Nibble.{is_nibble_is, high_bits}

-- a mask over bits 12 to 15, none of which the framing has, leaves no word with high bits
pub no_high_bits : (mask framing w : ℕ) → w < 65536 → mask / 2 ^ 12 ≡ 2 ^ 4 - 1 → framing / 2 ^ 12 ≡ 0 → bit_and w mask ≡ framing → w < 4096
no_high_bits mask framing w word over none same =
    let left : w / 2 ^ 12 % 2 ^ 4 ≡ 0 =
    sym (and_mask (w / 2 ^ 12) 4) ∙ ap (bit_and (w / 2 ^ 12)) (sym over) ∙ sym (and_shr w mask 12) ∙ ap (λ (x : ℕ). x / 2 ^ 12) same ∙ none in
    omega arith

abbrev complements : ℕ → Bool
complements w = eqb (bit_and (bit_xor w (w / 2)) 0xAA) 0xAA

module _ (mask framing : ℕ) where
  unfoldable pub told : ℕ → Bool
  told w = beq (eqb (bit_and w mask) framing && complements w) (eqb (nibble_word (true_bits w)) w)

  by_masks : every told 4096 ≡ true → (w : ℕ) → w < 4096 → is_nibble w ≡ (eqb (bit_and w mask) framing && complements w)
  unfolding told
  by_masks all w h =
      is_nibble_is w ∙ sym (same_truth (eqb (bit_and w mask) framing && complements w) (eqb (nibble_word (true_bits w)) w) (swept told 4096 all w h))

  pub unframed : (w : ℕ) → (bit_and w mask ≡ framing → ⊥) → every told 4096 ≡ true → is_nibble w ≡ false
  unframed w other all =
      ⊎_elim (λ low. by_masks all w low ∙ ap (λ (t : Bool). t && complements w) (ne_eqb (bit_and w mask) framing other))
      (λ high. high_bits w high) (below_or_not w 4096)

  pub by_complements : (w : ℕ) → w < 65536 → mask / 2 ^ 12 ≡ 2 ^ 4 - 1 → framing / 2 ^ 12 ≡ 0 → bit_and w mask ≡ framing → every told 4096 ≡ true
      → is_nibble w ≡ complements w
  by_complements w word over none same all =
      by_masks all w (no_high_bits mask framing w word over none same) ∙ ap (λ (t : Bool). t && complements w) (eq-eqb (bit_and w mask) framing same)
