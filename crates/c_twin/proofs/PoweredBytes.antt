-- Power-on on bytes: turned away nothing changes; else each device's bytes are those of one device's words after power-on, which makes the
-- bytes of the whole chain's.
use Rattle.std.specs.Prelude.{Result, ⊤}
use mathlib.Core.Path.{◌≡◌, refl, sym, ap, ap₂, ◌∙◌}
use mathlib.Core.Bool.{Bool, true, false, cond}
use mathlib.Core.List.{List, ◌∷◌, ◌++◌}
use Prim.Native.Nat.{ℕ, zero, suc, ◌+◌, ◌*◌, ◌%◌, ◌≤◌}
use native.Mathlib.Nat.{add-zero, add-suc, suc-add, zero-add}
use native.Mathlib.Omega.{arith}
use lib.ListN.{length}
use lib.Seq.{sets}
use Rattle.ground.specs.Sweep.{tabulated}
use Rattle.ground.proofs.Sweep.{length_tabulated}
use Rattle.ground.proofs.Lists.{sets_append}
use Rattle.lines.proofs.LeftBy.{left_written, left_as_it_was}
use Rattle.packing.specs.Words.{as_bytes}
use Rattle.packing.proofs.Back.{length_bytes, bytes_append}
use Rattle.registers.specs.Memory.{is_chain, power_on_figure, fresh, power_on_memory, PoweredOn}
use Rattle.registers.specs.declared.NoChain.{NoChain}
use Rattle.registers.proofs.Power.{switched_on}
use Rattle.c_twin.specs.TwinBytes.{chain_in, power_number, PowerBytesDone}
use Rattle.c_twin.proofs.Bytes.{chain_bytes, sets_whole}

-- ---- the two ways through the call

module _ (n : ℕ) (memory : List ℕ) where
  pub not_powered : chain_in n (length memory) ≡ false → PowerBytesDone n memory memory 15
  not_powered no_chain =
      let is : power_number n (length memory) ≡ 15 = ap (λ (t : Bool). cond t 0 15) no_chain in
      let row : 1 ≤ power_number n (length memory) = omega arith in
      record { says = sym is; leaves = sym (left_as_it_was (as_bytes (power_on_memory n)) memory _ row) }

  pub powered : (after : List ℕ) → chain_in n (length memory) ≡ true → after ≡ as_bytes (power_on_memory n) → PowerBytesDone n memory after 0
  powered after chain filled =
      let is : power_number n (length memory) ≡ 0 = ap (λ (t : Bool). cond t 0 15) chain in
      record { says = sym is; leaves = filled ∙ sym (left_written (as_bytes (power_on_memory n)) memory _ is) }

-- ---- device after device

-- two tables, one behind the other
tables : (f : ℕ → ℕ) (m n i : ℕ) → tabulated f (m + n) i ≡ tabulated f m i ++ tabulated f n (i + m)
tables f zero n i = ap₂ (λ (m k : ℕ). tabulated f m k) (zero-add n) (sym (add-zero i))
tables f (suc m) n i =
    ap (λ (k : ℕ). tabulated f k i) (suc-add m n)
    ∙ ap (λ (l : List ℕ). f i ∷ l) (tables f m n (suc i) ∙ ap (λ (k : ℕ). tabulated f m (suc i) ++ tabulated f n k) (suc-add i m ∙ sym (add-suc i m)))

-- device k's words are as device 0's
repeats : (k n i : ℕ) → tabulated fresh n (i + 256 * k) ≡ tabulated fresh n i
repeats k zero i = refl
repeats k (suc n) i =
    let same : (i + 256 * k) % 256 ≡ i % 256 = omega arith in
    ap₂ (λ (r : ℕ) (l : List ℕ). power_on_figure r ∷ l) same
    (ap (λ (at : ℕ). tabulated fresh n at) (sym (suc-add i (256 * k))) ∙ repeats k n (suc i))

-- one device's words
pub one_on : (blank words : List ℕ) (r : Result ⊤ NoChain) → PoweredOn 1 blank words r → length blank ≡ 256 → words ≡ power_on_memory 1
one_on blank words r done size = switched_on 1 blank words r done (ap (is_chain 1) size)

module _ (memory : List ℕ) where
  pub none_on : memory ≡ sets memory 0 (as_bytes (power_on_memory 0))
  unfolding as_bytes
  none_on = refl

  pub next_on : (k : ℕ) (words : List ℕ) → words ≡ power_on_memory 1
      → sets (sets memory 0 (as_bytes (power_on_memory k))) (2 * (256 * k)) (as_bytes words) ≡ sets memory 0 (as_bytes (power_on_memory (k + 1)))
  next_on k words one =
      let so_far = power_on_memory k in
      let place : 2 * (256 * k) ≡ 0 + length (as_bytes so_far) = omega (arith, length_bytes so_far, length_tabulated fresh (256 * k) 0) in
      let more : 256 * k + 256 ≡ 256 * (k + 1) = omega arith in
      ap (λ (at : ℕ). sets (sets memory 0 (as_bytes so_far)) at (as_bytes words)) place ∙ sym (sets_append memory 0 (as_bytes so_far) (as_bytes words))
      ∙ ap (sets memory 0)
      (sym (bytes_append so_far words)
      ∙ ap as_bytes
      (ap (λ (l : List ℕ). so_far ++ l) (one ∙ sym (repeats k 256 0)) ∙ sym (tables fresh (256 * k) 256 0) ∙ ap (λ (m : ℕ). tabulated fresh m 0) more))

  pub all_on : (n : ℕ) → chain_in n (length memory) ≡ true → sets memory 0 (as_bytes (power_on_memory n)) ≡ as_bytes (power_on_memory n)
  all_on n chain =
      sets_whole (as_bytes (power_on_memory n)) memory
      (omega (arith, length_bytes (power_on_memory n), length_tabulated fresh (256 * n) 0, chain_bytes n (length memory) chain))
