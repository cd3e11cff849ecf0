-- Lists of registers' values: what devices hold, and bytes on the wire read as values.
use mathlib.Core.Path.{◌≡◌, sym, ap, ◌∙◌, subst}
use mathlib.Core.Logic.{⊎_elim}
use mathlib.Core.List.{List, [], ◌∷◌, reverse, reverse-reverse}
use Prim.Native.Nat.{ℕ, zero, suc, ◌+◌, ◌*◌, ◌≤◌, ◌<◌}
use native.Mathlib.Omega.{arith}
use lib.Dec.{lit<}
use lib.ListN.{length, get_or, drop, length-reverse, get_or-eq_default}
use lib.Seq.{get_or-take, get_or-drop}
use Rattle.ground.specs.Sweep.{tabulated}
use Rattle.ground.proofs.Sweep.{length_tabulated, tabulated_at}
use Rattle.ground.proofs.Test.{below_or_not}
use Rattle.remainder.specs.Turned.{Bytes}
use Rattle.packing.specs.Words.{words_of, as_bytes}
use Rattle.packing.proofs.Back.{length_words, bytes_back, words_wide}
use Rattle.questions.specs.Bytes.{on_wire}
use Rattle.acceptance.specs.Answer.{Registers}
use Rattle.acceptance.proofs.Wire.{reversed_registers}
use Rattle.roundtrip.specs.Between.{held}

pub tabulated_registers : (f : ℕ → ℕ) (n : ℕ) → ((k : ℕ) → f k < 65536) → Registers (tabulated f n 0)
tabulated_registers f n small i =
    ⊎_elim (λ (h : i < n). omega (arith, tabulated_at f n 0 i h, small (0 + i)))
    (λ h. let past : length (tabulated f n 0) ≤ i = omega (arith, length_tabulated f n 0) in omega (arith, get_or-eq_default (tabulated f n 0) 0 past))
    (below_or_not i n)

pub one_register : (v : ℕ) → v < 65536 → Registers (v ∷ [])
one_register v h zero = h
one_register v h (suc i) = lit< tt

-- every word of the memory is a register's value
held_at : (memory : List ℕ) (k r : ℕ) → r < 256 → held memory k r ≡ get_or memory (256 * k + r) 0
held_at memory k r h = get_or-take 256 (drop (256 * k) memory) r 0 h ∙ get_or-drop (256 * k) memory r 0

pub held_lt : (memory : List ℕ) → Registers memory → (k r : ℕ) → r < 256 → held memory k r < 65536
held_lt memory words k r h = subst (λ (x : ℕ). x < 65536) (sym (held_at memory k r h)) (words (256 * k + r))

-- any two bytes for each of m places are m values on the wire
module _ (wire : List ℕ) (small : Bytes wire) (m : ℕ) (size : length wire ≡ 2 * m) where
  pub values_of : List ℕ
  values_of = reverse (words_of wire)

  pub values_number : length values_of ≡ m
  unfolding values_of
  values_number = length-reverse (words_of wire) ∙ length_words wire ∙ omega arith

  pub values_wire : wire ≡ on_wire values_of
  unfolding values_of on_wire
  values_wire = sym (ap as_bytes (reverse-reverse (words_of wire)) ∙ bytes_back wire m size small)

  pub values_registers : Registers values_of
  unfolding values_of
  values_registers = reversed_registers (words_of wire) (words_wide wire small)
