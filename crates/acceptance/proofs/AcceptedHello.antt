-- The bytes of an accepted answer to HELLOALL are those of a right answer, and its count is 1 to 32.
use mathlib.Core.Path.{◌≡◌, refl, sym, ap, ap₂, ◌∙◌}
use mathlib.Core.List.{List, [], ◌∷◌}
use Prim.Native.Nat.{ℕ, ◌+◌, ◌*◌, ◌≤◌}
use native.Mathlib.Omega.{arith}
use lib.Dec.{leb}
use lib.ListN.{length, get_or}
use borrow.Author.Tests.{eqb-true, leb-true}
use Rattle.ground.proofs.Test.{and_left, and_right}
use Rattle.lines.specs.Line.{bytes_of}
use Rattle.questions.specs.Shape.{shape_of}
use Rattle.questions.specs.Bytes.{answer_bytes}
use Rattle.questions.specs.declared.question.Question.{Question}
use Rattle.questions.proofs.ByKind.{of_hello}
use Rattle.questions.proofs.Good.{hello_shape}
use Rattle.contents.specs.Rows.{byte_in}
use Rattle.contents.proofs.RowLaws.{hello_count}
use Rattle.judging.proofs.Accepted.{Taken}
use Rattle.acceptance.proofs.AcceptedBytes.{length_own, first_is, rest_is}

all_three : (l : List ℕ) → length l ≡ 3 → l ≡ get_or l 0 0 ∷ get_or l 1 0 ∷ get_or l 2 0 ∷ []
all_three [] h = absurd (omega arith)
all_three (a ∷ []) h = absurd (omega arith)
all_three (a ∷ b ∷ []) h = absurd (omega arith)
all_three (a ∷ b ∷ c ∷ []) h = refl
all_three (a ∷ b ∷ c ∷ d ∷ l) h = absurd (omega arith)

module _ (q : Question) (line : List ℕ) (room : ℕ) (t : Taken q line room) where
  pub hello_bytes : q.kind ≡ 0 → bytes_of line ≡ answer_bytes q (byte_in (bytes_of line) 2 ∷ []) 0
  unfolding answer_bytes
  hello_bytes e =
      let words : (shape_of q).words ≡ 2 * 3 + 2 = ap (λ s. s.words) (hello_shape q e) in
      let second : byte_in (bytes_of line) 1 ≡ 0 = eqb-true (byte_in (bytes_of line) 1) 0 (sym (of_hello q.kind _ _ _ e) ∙ rest_is q line room t) in
      all_three (bytes_of line) (length_own q line room t 3 words)
      ∙ ap₂ (λ (x y : ℕ). x ∷ y ∷ byte_in (bytes_of line) 2 ∷ []) (first_is q line room t) second ∙ sym (of_hello q.kind _ _ _ e)

  pub right_count : q.kind ≡ 0 → (1 ≤ byte_in (bytes_of line) 2) × (byte_in (bytes_of line) 2 ≤ 32)
  right_count e =
      let b = byte_in (bytes_of line) 2 in
      let right = hello_count q (bytes_of line) e ∙ t.count in
      (leb-true 1 b (and_left _ _ right), leb-true b 32 (and_right (leb 1 b) _ right))
