-- The table law: why a table with one entry a byte does the work of eight shifts, at any width and in either bit order.
use mathlib.Core.Path.{◌≡◌, sym, ap, ◌∙◌}
use Prim.Native.Nat.{ℕ, ◌*◌, ◌/◌, ◌%◌, ◌^◌}
use native.Mathlib.Nat.{mod-lt}
use lib.Bits.{bit_xor, xor_comm, xor_shifted}
use lib.Pow.{pow_pos, split}
use Rattle.remainder.specs.Register.{Linear}
use Rattle.remainder.proofs.Xor.{xor_assoc}
use Rattle.remainder.proofs.Linear.{scale_linear}

-- a register is its k lowest bits, xor the rest
apart : (k r : ℕ) → r ≡ bit_xor (r % 2 ^ k) (r / 2 ^ k * 2 ^ k)
apart k r =
    sym (split r k) ∙ sym (xor_shifted (r / 2 ^ k) k (r % 2 ^ k) (mod-lt r (pow_pos k)))
    ∙ xor_comm (r / 2 ^ k * 2 ^ k) (r % 2 ^ k)

-- A register r, with the byte b folded in above its k lowest bits, after any linear steps: the steps of the k lowest bits, xor the
-- table's entry for the bits above them with b folded in. (Where k is 0 the entry is all there is.)
pub table_law : (steps : ℕ → ℕ) → Linear steps → (k r b : ℕ)
    → steps (bit_xor r (b * 2 ^ k)) ≡ bit_xor (steps (r % 2 ^ k)) (steps (bit_xor (r / 2 ^ k) b * 2 ^ k))
table_law steps h k r b =
    ap steps (ap (λ (x : ℕ). bit_xor x (b * 2 ^ k)) (apart k r) ∙ xor_assoc (r % 2 ^ k) (r / 2 ^ k * 2 ^ k) (b * 2 ^ k)
    ∙ ap (bit_xor (r % 2 ^ k)) (sym (scale_linear k (r / 2 ^ k) b)))
    ∙ h (r % 2 ^ k) (bit_xor (r / 2 ^ k) b * 2 ^ k)
