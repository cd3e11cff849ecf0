-- The line of a right answer to HELLOALL is accepted, with its count.
use mathlib.Core.Path.{◌≡◌, refl, sym, ap, ap₂, ◌∙◌}
use mathlib.Core.Bool.{true, ◌&&◌}
use mathlib.Core.List.{List, [], ◌∷◌}
use Prim.Native.Nat.{ℕ, ◌≤◌}
use native.Mathlib.Omega.{arith}
use lib.Dec.{lit<}
use borrow.Author.Tests.{le-leb}
use Rattle.std.specs.Prelude.{Ok}
use Rattle.remainder.specs.Turned.{Bytes}
use Rattle.lines.specs.Line.{line_of, bytes_of}
use Rattle.lines.proofs.Line.{length_line, bytes_of_line}
use Rattle.scanning.proofs.Whole.{line_passes}
use Rattle.questions.specs.Question.{good_question}
use Rattle.questions.specs.Shape.{shape_of}
use Rattle.questions.specs.declared.question.Question.{Question}
use Rattle.questions.proofs.Good.{good_first, hello_shape}
use Rattle.contents.specs.Rows.{byte_in, echoed, count_right}
use Rattle.judging.specs.Judge.{judge_of}
use Rattle.readings.specs.declared.Taken.TheVariants.{Counted}
use Rattle.judging.proofs.Accepted.{Taken, taken_reads}
use Rattle.contents.proofs.RowLaws
use Rattle.acceptance.specs.Answer.{Sendable}
use Rattle.acceptance.proofs.Wire.{bytes_cons, no_bytes}

module _ (q : Question) (good : good_question q ≡ true) (s : Sendable q) (room : ℕ) (enough : (shape_of q).values ≤ room) where
  module _ (e : q.kind ≡ 0) (count : ℕ) (least : 1 ≤ count) (most : count ≤ 32) where
    unfoldable pub hello_bytes : List ℕ
    hello_bytes = (shape_of q).first ∷ 0 ∷ count ∷ []

    hello_are_bytes : Bytes hello_bytes
    unfolding hello_bytes
    hello_are_bytes =
        bytes_cons (shape_of q).first (0 ∷ count ∷ []) (good_first q good)
        (bytes_cons 0 (count ∷ []) (lit< tt) (bytes_cons count [] (omega arith) no_bytes))

    own : bytes_of (line_of hello_bytes) ≡ hello_bytes
    own = bytes_of_line hello_bytes hello_are_bytes

    hello_takes : Taken q (line_of hello_bytes) room
    unfolding hello_bytes
    hello_takes =
        record {
          good = good;
          enough = enough;
          words = length_line hello_bytes ∙ sym (ap (λ s. s.words) (hello_shape q e));
          rows = line_passes hello_bytes hello_are_bytes;
          echo = ap (echoed q) own ∙ sym (RowLaws.hello_echo q hello_bytes refl e);
          pec = sym (RowLaws.hello_pec q (bytes_of (line_of hello_bytes)) e);
          alive = sym (RowLaws.hello_alive q (bytes_of (line_of hello_bytes)) e);
          check = sym (RowLaws.no_check q (bytes_of (line_of hello_bytes)) (omega arith));
          count = ap (count_right q) own ∙ sym (RowLaws.hello_count q hello_bytes e) ∙ ap₂ ◌&&◌ (le-leb 1 count least) (le-leb count 32 most);
        }

    pub hello_reads : judge_of q (line_of hello_bytes) room ≡ Ok (Counted count)
    unfolding hello_bytes
    hello_reads =
        taken_reads q (line_of hello_bytes) room hello_takes ∙ sym (RowLaws.hello_taken q (bytes_of (line_of hello_bytes)) e)
        ∙ ap (λ (l : List ℕ). Ok (Counted (byte_in l 2))) own
