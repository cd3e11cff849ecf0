-- What keeps a word from being a nibble's, by masks: nothing exactly where it is one. One computed test of the words without high bits shows it.
use mathlib.Core.Path.{◌≡◌, sym, ap, ◌∙◌}
use mathlib.Core.Bool.{Bool, true, beq}
use mathlib.Core.Logic.{⊎_elim}
use Prim.Native.Nat.{ℕ, ◌-◌, ◌/◌, ◌%◌, ◌^◌, ◌≤◌, ◌<◌}
use native.Mathlib.Omega.{arith}
use lib.Bits.{bit_xor, bit_and, bit_or, and_le_r, and_mask, and_shr, or_add_and, xor_shr, xor_zero_r}
use lib.Dec.{eqb}
use borrow.Author.Tests.{ne_eqb}
use Rattle.ground.specs.Sweep.{every}
use Rattle.ground.proofs.Test.{below_or_not, same_truth}
use Rattle.ground.proofs.Sweep.{swept}
use Rattle.characters.specs.Nibble.{nibble_word, true_bits, is_nibble}
use Rattle.characters.proofs.Nibble.{is_nibble_is, high_bits}

module _ (framing mask flips seen : ℕ) where
  abbrev unframed : ℕ → ℕ
  unframed w = bit_and (bit_xor w framing) mask

  abbrev uncomplemented : ℕ → ℕ
  uncomplemented w = bit_and (bit_xor (bit_xor w (w / 2)) flips) seen

  unfoldable pub told : ℕ → Bool
  told w = beq (eqb (bit_or (unframed w) (uncomplemented w)) 0) (eqb (nibble_word (true_bits w)) w)

  -- a mask over bits 12 to 15, none of which the framing has, finds every word with high bits
  found : (w : ℕ) → w < 65536 → 4096 ≤ w → mask / 2 ^ 12 ≡ 2 ^ 4 - 1 → framing / 2 ^ 12 ≡ 0 → bit_or (unframed w) (uncomplemented w) ≡ 0 → ⊥
  found w word high over none e =
      let nothing : unframed w ≡ 0 = omega (arith, e, or_add_and (unframed w) (uncomplemented w), and_le_r (unframed w) (uncomplemented w)) in
      let same : bit_xor w framing / 2 ^ 12 ≡ w / 2 ^ 12 = xor_shr w framing 12 ∙ ap (bit_xor (w / 2 ^ 12)) none ∙ xor_zero_r (w / 2 ^ 12) in
      let left : w / 2 ^ 12 % 2 ^ 4 ≡ 0 =
      sym (and_mask (w / 2 ^ 12) 4) ∙ ap (bit_and (w / 2 ^ 12)) (sym over) ∙ ap (λ (x : ℕ). bit_and x (mask / 2 ^ 12)) (sym same)
      ∙ sym (and_shr (bit_xor w framing) mask 12) ∙ ap (λ (x : ℕ). x / 2 ^ 12) nothing in
      omega arith

  pub no_misfits : (w : ℕ) → w < 65536 → mask / 2 ^ 12 ≡ 2 ^ 4 - 1 → framing / 2 ^ 12 ≡ 0 → every told 4096 ≡ true
      → eqb (bit_or (unframed w) (uncomplemented w)) 0 ≡ is_nibble w
  unfolding told
  no_misfits w word over none all =
      ⊎_elim
      (λ low. same_truth (eqb (bit_or (unframed w) (uncomplemented w)) 0) (eqb (nibble_word (true_bits w)) w) (swept told 4096 all w low) ∙ sym (is_nibble_is w))
      (λ high. ne_eqb (bit_or (unframed w) (uncomplemented w)) 0 (found w word high over none) ∙ sym (high_bits w high)) (below_or_not w 4096)
