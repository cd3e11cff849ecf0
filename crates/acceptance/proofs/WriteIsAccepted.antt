-- The line of a right answer to a write is accepted.
use mathlib.Core.Path.{◌≡◌, refl, sym, ap₂, ◌∙◌}
use mathlib.Core.Bool.{true, ◌&&◌}
use mathlib.Core.List.{List, ◌∷◌}
use Prim.Native.Nat.{ℕ, ◌+◌, ◌*◌, ◌/◌, ◌%◌, ◌≤◌}
use native.Mathlib.Omega.{arith}
use lib.ListN.{length}
use borrow.Author.Tests.{eq-eqb}
use Rattle.std.specs.Prelude.{Ok}
use Rattle.remainder.specs.Turned.{Bytes}
use Rattle.lines.specs.Line.{line_of, bytes_of}
use Rattle.questions.specs.Question.{good_question}
use Rattle.questions.specs.Shape.{shape_of}
use Rattle.questions.specs.Bytes.{low_high, sealed, write_covered}
use Rattle.questions.specs.declared.question.Question.{Question}
use Rattle.questions.proofs.Good.{good_first, write_shape}
use Rattle.judging.specs.Judge.{judge_of}
use Rattle.readings.specs.declared.Taken.TheVariants.{Written}
use Rattle.judging.proofs.Accepted.{Taken, taken_reads}
use Rattle.contents.proofs.RowLaws
use Rattle.acceptance.specs.Answer.{Sendable}
use Rattle.acceptance.proofs.Wire.{bytes_cons, two_bytes}
use Rattle.acceptance.proofs.SealedIsAccepted.{bytes, takes}

module _ (q : Question) (good : good_question q ≡ true) (s : Sendable q) (room : ℕ) (enough : (shape_of q).values ≤ room) where
  module _ (lo : 1 ≤ q.kind) (hi : q.kind ≤ 2) where
    write_are_bytes : Bytes (write_covered q)
    write_are_bytes =
        bytes_cons (shape_of q).first (q.reg ∷ low_high q.value) (good_first q good)
        (bytes_cons q.reg (low_high q.value) s.reg (two_bytes q.value s.value))

    unfoldable pub write_line : List ℕ
    write_line = line_of (sealed q (shape_of q).acting (write_covered q))

    write_takes : Taken q write_line room
    unfolding write_line bytes sealed
    write_takes =
        let shape = write_shape q lo hi in
        let len : length (write_covered q) ≡ (shape_of q).covered = sym shape.covered in
        let words : (shape_of q).words ≡ 2 * ((shape_of q).covered + 1 + q.alive) + 2 = omega (arith, shape.words, shape.covered) in
        takes q good s room enough lo (write_covered q) write_are_bytes len words
        (sym (RowLaws.write_echo q (sealed q (shape_of q).acting (write_covered q)) refl lo hi refl)
        ∙ ap₂ ◌&&◌ (eq-eqb (q.value % 256) (q.value % 256) refl) (eq-eqb (q.value / 256) (q.value / 256) refl))
        (sym (RowLaws.no_check q (sealed q (shape_of q).acting (write_covered q)) hi))

    pub write_reads : judge_of q write_line room ≡ Ok Written
    write_reads = taken_reads q write_line room write_takes ∙ sym (RowLaws.write_taken q (bytes_of write_line) lo hi)
