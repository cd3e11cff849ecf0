-- The bytes of an accepted answer to a write are those of its one right answer.
use mathlib.Core.Path.{◌≡◌, refl, sym, ap, ap₂, ◌∙◌}
use mathlib.Core.Bool.{true, ◌&&◌}
use mathlib.Core.List.{List, [], ◌∷◌}
use Prim.Native.Nat.{ℕ, ◌+◌, ◌*◌, ◌/◌, ◌%◌, ◌≤◌}
use native.Mathlib.Omega.{arith}
use lib.Dec.{eqb}
use lib.ListN.{length, get_or, take}
use borrow.Author.Tests.{eqb-true}
use Rattle.ground.proofs.Test.{and_left, and_right}
use Rattle.lines.specs.Line.{bytes_of}
use Rattle.questions.specs.Shape.{shape_of}
use Rattle.questions.specs.Bytes.{write_covered, answer_bytes}
use Rattle.questions.specs.declared.question.Question.{Question}
use Rattle.questions.proofs.ByKind.{of_write}
use Rattle.questions.proofs.Good.{write_shape}
use Rattle.contents.specs.Rows.{byte_in, value_echoed}
use Rattle.judging.proofs.Accepted.{Taken}
use Rattle.acceptance.proofs.AcceptedBytes.{length_own, first_is, rest_is, closed}

take_four : (l : List ℕ) → 4 ≤ length l → take 4 l ≡ get_or l 0 0 ∷ get_or l 1 0 ∷ get_or l 2 0 ∷ get_or l 3 0 ∷ []
take_four [] h = absurd (omega arith)
take_four (a ∷ []) h = absurd (omega arith)
take_four (a ∷ b ∷ []) h = absurd (omega arith)
take_four (a ∷ b ∷ c ∷ []) h = absurd (omega arith)
take_four (a ∷ b ∷ c ∷ d ∷ l) h = refl

module _ (q : Question) (line : List ℕ) (room : ℕ) (t : Taken q line room) where
  pub write_bytes : 1 ≤ q.kind → q.kind ≤ 2 → bytes_of line ≡ answer_bytes q [] 0
  unfolding answer_bytes
  write_bytes lo hi =
      let s = write_shape q lo hi in
      let words : (shape_of q).words ≡ 2 * ((shape_of q).covered + 1 + q.alive) + 2 = omega (arith, s.words, s.covered) in
      let count = (shape_of q).covered + 1 + q.alive in
      let both : (eqb (byte_in (bytes_of line) 1) q.reg && value_echoed q (bytes_of line)) ≡ true = sym (of_write q.kind _ _ _ lo hi) ∙ rest_is q line room t in
      let value = and_right (eqb (byte_in (bytes_of line) 1) q.reg) _ both in
      let four : take 4 (bytes_of line) ≡ write_covered q =
      take_four (bytes_of line) (omega (arith, length_own q line room t count words, s.covered))
      ∙ ap₂ (λ (x y : ℕ). x ∷ y ∷ get_or (bytes_of line) 2 0 ∷ get_or (bytes_of line) 3 0 ∷ []) (first_is q line room t)
      (eqb-true (byte_in (bytes_of line) 1) q.reg (and_left _ _ both))
      ∙ ap₂ (λ (x y : ℕ). (shape_of q).first ∷ q.reg ∷ x ∷ y ∷ []) (eqb-true (byte_in (bytes_of line) 2) (q.value % 256) (and_left _ _ value))
      (eqb-true (byte_in (bytes_of line) 3) (q.value / 256) (and_right (eqb (byte_in (bytes_of line) 2) (q.value % 256)) _ value)) in
      closed q line room t lo words (write_covered q) (sym s.covered) (ap (λ (k : ℕ). take k (bytes_of line)) s.covered ∙ four)
      ∙ sym (of_write q.kind _ _ _ lo hi)
