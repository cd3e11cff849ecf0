-- Laws of a command's bytes: the alive byte present or not, how many bytes the fill pairs are, and the command of each form.
use mathlib.Core.Path.{◌≡◌, refl, ap}
use mathlib.Core.Bool.{Bool, cond}
use mathlib.Core.List.{List, [], ◌∷◌, ◌++◌}
use Prim.Native.Nat.{ℕ, zero, suc, ◌+◌, ◌*◌, ◌%◌, ◌≤◌}
use native.Mathlib.Omega.{arith}
use lib.ListN.{length, length-append}
use Rattle.pec.specs.Pec.{pec_of}
use Rattle.packing.specs.Words.{as_bytes}
use borrow.Author.Tests.{eq-eqb, ne_eqb}
use Rattle.questions.specs.Shape.{shape_of}
use Rattle.questions.specs.Bytes.{low_high, on_wire, alive_byte, sealed, fill_pairs, command_bytes}
use Rattle.questions.specs.declared.question.Question.{Question}
use Rattle.questions.proofs.ByKind.{of_hello, of_write, of_read}

-- the alive byte, where the bench has it on and where not
pub alive_present : (q : Question) (added : ℕ) → q.alive ≡ 1 → alive_byte q added ≡ (q.seed + added) % 256 ∷ []
alive_present q added on = ap (λ (t : Bool). cond t ((q.seed + added) % 256 ∷ []) []) (eq-eqb q.alive 1 on)

pub alive_absent : (q : Question) (added : ℕ) → (q.alive ≡ 1 → ⊥) → alive_byte q added ≡ []
alive_absent q added off = ap (λ (t : Bool). cond t ((q.seed + added) % 256 ∷ []) []) (ne_eqb q.alive 1 off)

pub alive_off : (q : Question) (added : ℕ) → q.alive ≡ 0 → alive_byte q added ≡ []
alive_off q added e = alive_absent q added (λ one. omega arith)

-- covered bytes, PEC, alive byte
pub sealed_size : (q : Question) (added : ℕ) (covered : List ℕ) → length (sealed q added covered) ≡ length covered + 1 + length (alive_byte q added)
unfolding sealed
sealed_size q added covered = omega (arith, length-append covered (pec_of covered ∷ alive_byte q added))

pub length_pairs : (n : ℕ) → length (fill_pairs n) ≡ 2 * n
unfolding fill_pairs
length_pairs zero = refl
length_pairs (suc n) = let h = length_pairs n in omega arith

-- ---- the command of each form

module _ (q : Question) where
  pub hello_command : q.kind ≡ 0 → command_bytes q ≡ (shape_of q).first ∷ 0 ∷ 0 ∷ []
  unfolding command_bytes
  hello_command e = of_hello q.kind _ _ _ e

  pub write_command : 1 ≤ q.kind → q.kind ≤ 2 → command_bytes q ≡ sealed q 0 ((shape_of q).first ∷ q.reg ∷ low_high q.value)
  unfolding command_bytes
  write_command lo hi = of_write q.kind _ _ _ lo hi

  pub read_command : 3 ≤ q.kind → command_bytes q ≡ sealed q 0 ((shape_of q).first ∷ q.reg ∷ 0 ∷ []) ++ fill_pairs (shape_of q).values
  unfolding command_bytes on_wire as_bytes
  read_command lo = of_read q.kind _ _ _ lo
