-- Small laws of the definitions, one for each look that the code takes.
use Rattle.std.specs.Prelude.{Some}
use Rattle.std.proofs.Common.{◌≡◌, ℕ, zero, suc, ◌+◌, ◌/◌, ◌≤◌, Bool, true, false, eqb, List, get_or, refl, arith, eq-eqb, ne_eqb}
use Rattle.characters.specs.Character.{preamble, stop}
use Rattle.questions.specs.Question.{by_form}
use Rattle.questions.specs.Shape.{shape_at, shape_of}
use Rattle.questions.specs.declared.question.Question.{Question}
use Rattle.readings.specs.declared.Refusal.{Refusal}
use Rattle.readings.specs.declared.Refusal.TheVariants as row
use Rattle.reasons.specs.Reason.{at_word, last_place, at_ends, asked_byte, because_of}

-- no answer has more values than the chain has devices, or one
pub values_le : (q : Question) → (shape_of q).values ≤ q.n + 1
unfolding shape_of
values_le q = at q.kind
  where
    at : (k : ℕ) → (shape_at k q).values ≤ q.n + 1
    at zero = omega arith
    at (suc zero) = omega arith
    at (suc (suc zero)) = omega arith
    at (suc (suc (suc zero))) = omega arith
    at (suc (suc (suc (suc k)))) = omega arith

-- what an answer repeats, byte by byte
pub the_register : (k reg : ℕ) → (k ≡ 0 → ⊥) → reg ≡ by_form k 0 reg reg
the_register zero reg other = absurd (other refl)
the_register (suc zero) reg other = refl
the_register (suc (suc zero)) reg other = refl
the_register (suc (suc (suc zero))) reg other = refl
the_register (suc (suc (suc (suc k)))) reg other = refl

pub the_fourth : (q : Question) (i : ℕ) → (i ≡ 0 → ⊥) → (i ≡ 1 → ⊥) → (i ≡ 2 → ⊥) → q.value / 256 ≡ asked_byte q i
the_fourth q zero a b c = absurd (a refl)
the_fourth q (suc zero) a b c = absurd (b refl)
the_fourth q (suc (suc zero)) a b c = absurd (c refl)
the_fourth q (suc (suc (suc i))) a b c = refl

-- row 5's end
pub the_first_word : (line : List ℕ) → (get_or line 0 0 ≡ preamble → ⊥) → at_word line row.Frame 0 (Some preamble) ≡ at_ends line
the_first_word line other = simp (ne_eqb (get_or line 0 0) preamble other)

pub the_last_word : (line : List ℕ) → get_or line 0 0 ≡ preamble → at_word line row.Frame (last_place line) (Some stop) ≡ at_ends line
the_last_word line is = simp (eq-eqb (get_or line 0 0) preamble is)

-- the refusal that is told is the reader's
pub same_why : (q : Question) (line : List ℕ) (why : Refusal) → (because_of q line why).why ≡ why
same_why q line row.Question = refl
same_why q line row.Room = refl
same_why q line row.Length = refl
same_why q line (row.Character i) = refl
same_why q line row.Frame = by_test (eqb (get_or line 0 0) preamble) refl
  where
    by_test : (t : Bool) → eqb (get_or line 0 0) preamble ≡ t → (at_ends line).why ≡ row.Frame
    by_test true e = simp e
    by_test false e = simp e
same_why q line (row.Manchester i) = refl
same_why q line row.Echo = refl
same_why q line row.Pec = refl
same_why q line row.Alive = refl
same_why q line (row.Check b) = refl
same_why q line (row.Count b) = refl
