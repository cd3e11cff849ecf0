-- A character told by a mask and by the number of set bits: where one computed test of the words without high bits says that a mask is the right
-- one, it decides for each of them.
use mathlib.Core.Path.{◌≡◌, sym, ap, ◌∙◌}
use mathlib.Core.Bool.{Bool, true, false, ◌&&◌, beq}
use mathlib.Core.Logic.{⊎_elim}
use Prim.Native.Nat.{ℕ, zero, suc, ◌+◌, ◌-◌, ◌/◌, ◌%◌, ◌^◌, ◌≤◌, ◌<◌}
use native.Mathlib.Nat.{pow-suc}
use native.Mathlib.Omega.{arith}
use lib.Bits.{bit_and}
use lib.Count.{ones, ones_in, ones_step}
use lib.Dec.{eqb}
use borrow.Author.Tests.{eq-eqb, ne_eqb}
use Rattle.ground.specs.Sweep.{every}
use Rattle.ground.proofs.Test.{below_or_not, same_truth}
use Rattle.ground.proofs.Sweep.{swept}
use Rattle.characters.proofs.Masks.{no_high_bits}
use Rattle.character_check.specs.Check.{started, stopped, even_parity, is_character}

-- a word with high bits set is no character
high_bits : (w : ℕ) → 4096 ≤ w → is_character w ≡ false
unfolding is_character
high_bits w high = ap (λ (t : Bool). t && started w && stopped w && even_parity w) (ne_eqb (w / 2 ^ 12) 0 (λ e. absurd (omega arith)))

-- the set bits of a number of k bits, counted in k steps
ones_in_lem : (k n : ℕ) → n < 2 ^ k → ones n ≡ ones_in k n
unfolding ones ones_in
ones_in_lem zero n h = let none : n ≡ 0 = omega arith in ap ones none
ones_in_lem (suc k) n h = ones_step n ∙ ap (λ (rest : ℕ). n % 2 + rest) (ones_in_lem k (n / 2) (omega (arith, pow-suc 2 k)))

module _ (mask framing : ℕ) where
  -- a word is a character exactly where the mask leaves the framing of it, and its set bits are even in number
  unfoldable pub told : ℕ → Bool
  told w = beq (is_character w) (eqb (bit_and w mask) framing && eqb (ones_in 12 w % 2) 0)

  by_mask : every told 4096 ≡ true → (w : ℕ) → w < 4096 → is_character w ≡ (eqb (bit_and w mask) framing && eqb (ones w % 2) 0)
  unfolding told
  by_mask all w h =
      same_truth (is_character w) (eqb (bit_and w mask) framing && eqb (ones_in 12 w % 2) 0) (swept told 4096 all w h)
      ∙ ap (λ (n : ℕ). eqb (bit_and w mask) framing && eqb (n % 2) 0) (sym (ones_in_lem 12 w h))

  pub unframed : (w : ℕ) → (bit_and w mask ≡ framing → ⊥) → every told 4096 ≡ true → is_character w ≡ false
  unframed w other all =
      ⊎_elim (λ low. by_mask all w low ∙ ap (λ (t : Bool). t && eqb (ones w % 2) 0) (ne_eqb (bit_and w mask) framing other))
      (λ high. high_bits w high) (below_or_not w 4096)

  pub by_parity : (w : ℕ) → w < 65536 → mask / 2 ^ 12 ≡ 2 ^ 4 - 1 → framing / 2 ^ 12 ≡ 0 → bit_and w mask ≡ framing → every told 4096 ≡ true
      → is_character w ≡ eqb (ones w % 2) 0
  by_parity w word over none same all =
      by_mask all w (no_high_bits mask framing w word over none same) ∙ ap (λ (t : Bool). t && eqb (ones w % 2) 0) (eq-eqb (bit_and w mask) framing same)
