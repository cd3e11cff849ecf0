-- The bytes of an accepted answer to a read are those of the answer that carries the values handed out.
use mathlib.Core.Path.{◌≡◌, sym, ap, ap₂, ◌∙◌}
use mathlib.Core.List.{List, [], ◌∷◌, ◌++◌}
use Prim.Native.Nat.{ℕ, suc, ◌+◌, ◌*◌, ◌≤◌, ◌<◌}
use native.Mathlib.Omega.{arith}
use lib.ListN.{length, get_or, take, drop, length-append, length-drop}
use lib.Seq.{take-suc, get_or-drop}
use borrow.Author.Tests.{eqb-true}
use Rattle.lines.specs.Line.{bytes_of}
use Rattle.lines.proofs.Line.{bytes_bytes}
use Rattle.questions.specs.Shape.{shape_of}
use Rattle.questions.specs.Bytes.{on_wire, read_covered, answer_bytes}
use Rattle.questions.specs.declared.question.Question.{Question}
use Rattle.questions.proofs.ByKind.{of_read}
use Rattle.questions.proofs.Good.{read_shape}
use Rattle.questions.proofs.Wire.{length_wire}
use Rattle.reader.specs.Read.{values_on}
use Rattle.reader.proofs.Values.{values_number}
use Rattle.judging.proofs.Accepted.{Taken}
use Rattle.contents.specs.Rows.{byte_in}
use Rattle.contents.proofs.RowLaws.{read_check}
use Rattle.acceptance.specs.Answer.{AllValues}
use Rattle.acceptance.proofs.Wire.{wire_read, values_registers}
use Rattle.acceptance.proofs.AcceptedBytes.{length_own, first_is, rest_is, closed}

take_more : (l : List ℕ) (k : ℕ) → 2 + k ≤ length l → take (2 + k) l ≡ get_or l 0 0 ∷ get_or l 1 0 ∷ take k (drop 2 l)
take_more [] k h = absurd (omega arith)
take_more (a ∷ []) k h = absurd (omega arith)
take_more (a ∷ b ∷ l) k h = let two : 2 + k ≡ suc (suc k) = omega arith in ap (λ (n : ℕ). take n (a ∷ b ∷ l)) two

module _ (q : Question) (line : List ℕ) (room : ℕ) (t : Taken q line room) where
  module _ (lo : 3 ≤ q.kind) where
    m : ℕ
    m = (shape_of q).values

    count : ℕ
    count = (shape_of q).covered + 1 + q.alive

    words : (shape_of q).words ≡ 2 * count + 2
    unfolding count
    words = let s = read_shape q lo in omega (arith, s.words, s.covered)

    many : length (bytes_of line) ≡ 2 * m + 4 + q.alive
    unfolding m count
    many = omega (arith, length_own q line room t count words, (read_shape q lo).covered)

    on_wire_lem : take (2 * m) (drop 2 (bytes_of line)) ≡ on_wire (values_on line m)
    on_wire_lem = wire_read (bytes_of line) (bytes_bytes line) m (omega (arith, many))

    number : length (values_on line m) ≡ m
    number = values_number (bytes_of line) m (omega (arith, many))

    read_front : take (shape_of q).covered (bytes_of line) ≡ read_covered q (values_on line m) 0
    unfolding m
    read_front =
        let size = many in
        let covered : (shape_of q).covered ≡ 2 + suc (2 * m) = omega (arith, (read_shape q lo).covered) in
        let within : 2 * m < length (drop 2 (bytes_of line)) = omega (arith, length-drop 2 (bytes_of line)) in
        let check : get_or (drop 2 (bytes_of line)) (2 * m) 0 ≡ 0 =
        get_or-drop 2 (bytes_of line) (2 * m) 0 ∙ read_check q (bytes_of line) lo ∙ t.check in
        ap (λ (k : ℕ). take k (bytes_of line)) covered ∙ take_more (bytes_of line) (suc (2 * m)) (omega arith)
        ∙ ap₂ (λ (x y : ℕ). x ∷ y ∷ take (suc (2 * m)) (drop 2 (bytes_of line))) (first_is q line room t)
        (eqb-true (byte_in (bytes_of line) 1) q.reg (sym (of_read q.kind _ _ _ lo) ∙ rest_is q line room t))
        ∙ ap (λ (l : List ℕ). (shape_of q).first ∷ q.reg ∷ l)
        (take-suc (drop 2 (bytes_of line)) (2 * m) 0 within ∙ ap₂ (λ (x : List ℕ) (y : ℕ). x ++ (y ∷ [])) on_wire_lem check)

    length_read : length (read_covered q (values_on line m) 0) ≡ (shape_of q).covered
    unfolding m
    length_read =
        omega (arith, length-append (on_wire (values_on line m)) (0 ∷ []), length_wire (values_on line m), number, (read_shape q lo).covered)

    pub read_bytes : bytes_of line ≡ answer_bytes q (values_on line (shape_of q).values) 0
    unfolding answer_bytes m count
    read_bytes =
        closed q line room t (omega arith) words (read_covered q (values_on line m) 0) length_read read_front ∙ sym (of_read q.kind _ _ _ lo)

    pub read_values : AllValues q (values_on line (shape_of q).values)
    unfolding m
    read_values = record { number = number; registers = values_registers (bytes_of line) (bytes_bytes line) m }
