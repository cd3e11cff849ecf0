-- The bytes of an accepted line: how many, the first ones, and what stands behind the covered part.
use mathlib.Core.Path.{◌≡◌, sym, ap, ◌∙◌}
use mathlib.Core.Bool.{true, ◌&&◌}
use mathlib.Core.List.{List}
use Prim.Native.Nat.{ℕ, ◌+◌, ◌*◌, ◌%◌, ◌≤◌}
use native.Mathlib.Omega.{arith}
use lib.Dec.{eqb}
use lib.ListN.{length, get_or, take}
use borrow.Author.Tests.{eqb-true}
use Rattle.ground.proofs.Test.{and_left, and_right}
use Rattle.pec.specs.Pec.{pec_of}
use Rattle.lines.specs.Line.{bytes_of}
use Rattle.lines.proofs.Line.{byte_count, length_bytes}
use Rattle.questions.specs.Question.{by_form}
use Rattle.questions.specs.Shape.{shape_of}
use Rattle.questions.specs.Bytes.{sealed}
use Rattle.questions.specs.declared.question.Question.{Question}
use Rattle.questions.proofs.Good.{good_alive}
use Rattle.contents.specs.Rows.{byte_in, value_echoed, echoed}
use Rattle.judging.proofs.Accepted.{Taken}
use Rattle.contents.proofs.RowLaws.{other_pec, some_alive}
use Rattle.acceptance.proofs.Sealed.{is_sealed}

-- a line that rows 3 to 6 let through is the line of its own bytes
module _ (q : Question) (line : List ℕ) (room : ℕ) (t : Taken q line room) where
  module _ (count : ℕ) (words : (shape_of q).words ≡ 2 * count + 2) where
    size : length line ≡ 2 * count + 2
    size = t.words ∙ words

    how_many : byte_count line ≡ count
    how_many = let s = size in omega arith

    pub length_own : length (bytes_of line) ≡ count
    length_own = length_bytes line ∙ how_many

  -- the first two bytes, of writes and reads
  pub first_is : byte_in (bytes_of line) 0 ≡ (shape_of q).first
  unfolding echoed
  first_is = eqb-true (byte_in (bytes_of line) 0) (shape_of q).first (and_left _ _ t.echo)

  pub rest_is : by_form q.kind (eqb (byte_in (bytes_of line) 1) 0) (eqb (byte_in (bytes_of line) 1) q.reg && value_echoed q (bytes_of line)) (eqb (byte_in (bytes_of line) 1) q.reg) ≡ true
  unfolding echoed
  rest_is = and_right (eqb (byte_in (bytes_of line) 0) (shape_of q).first) _ t.echo

  pec_is : 1 ≤ q.kind → byte_in (bytes_of line) (shape_of q).covered ≡ pec_of (take (shape_of q).covered (bytes_of line))
  pec_is lo =
      eqb-true (byte_in (bytes_of line) (shape_of q).covered) (pec_of (take (shape_of q).covered (bytes_of line))) (other_pec q (bytes_of line) lo ∙ t.pec)

  alive_is : 1 ≤ q.kind → q.alive ≡ 1 → byte_in (bytes_of line) ((shape_of q).covered + 1) ≡ (q.seed + (shape_of q).acting) % 256
  alive_is lo on =
      eqb-true (byte_in (bytes_of line) ((shape_of q).covered + 1)) ((q.seed + (shape_of q).acting) % 256) (some_alive q (bytes_of line) lo on ∙ t.alive)

  -- ---- writes and reads: the covered part, its PEC and the alive byte

  module _ (lo : 1 ≤ q.kind) (words : (shape_of q).words ≡ 2 * ((shape_of q).covered + 1 + q.alive) + 2) where
    pub closed : (covered : List ℕ) → length covered ≡ (shape_of q).covered → take (shape_of q).covered (bytes_of line) ≡ covered
        → bytes_of line ≡ sealed q (shape_of q).acting covered
    closed covered len front =
        let size = length_own ((shape_of q).covered + 1 + q.alive) words in
        is_sealed q (shape_of q).acting (good_alive q t.good) (bytes_of line) covered
        (size ∙ ap (λ (k : ℕ). k + 1 + q.alive) (sym len))
        (ap (λ (k : ℕ). take k (bytes_of line)) len ∙ front)
        (ap (λ (k : ℕ). get_or (bytes_of line) k 0) len ∙ pec_is lo ∙ ap pec_of front)
        (λ on. ap (λ (k : ℕ). get_or (bytes_of line) (k + 1) 0) len ∙ alive_is lo on)
