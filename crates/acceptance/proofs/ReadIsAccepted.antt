-- The line of a right answer to a read is accepted, and the values handed out are those that it carries.
use mathlib.Core.Path.{◌≡◌, refl, sym, ap, ap₂, ◌∙◌}
use mathlib.Core.Bool.{true}
use mathlib.Core.List.{List, [], ◌∷◌, ◌++◌, append_assoc}
use Prim.Native.Nat.{ℕ, suc, ◌+◌, ◌*◌, ◌≤◌, ◌<◌}
use native.Mathlib.Omega.{arith}
use lib.Dec.{lit<}
use lib.ListN.{length, get_or, length-append, get_or-append}
use lib.Seq.{get_or_at}
use Rattle.std.specs.Prelude.{Ok}
use Rattle.remainder.specs.Turned.{Bytes}
use Rattle.pec.specs.Pec.{pec_of}
use Rattle.lines.specs.Line.{line_of, bytes_of}
use Rattle.questions.specs.Question.{good_question}
use Rattle.questions.specs.Shape.{shape_of}
use Rattle.questions.specs.Bytes.{on_wire, alive_byte, sealed, read_covered}
use Rattle.questions.specs.declared.question.Question.{Question}
use Rattle.questions.proofs.Good.{good_first, read_shape}
use Rattle.questions.proofs.Wire.{length_wire}
use Rattle.contents.specs.Rows.{byte_in, check_byte}
use Rattle.judging.specs.Judge.{judge_of}
use Rattle.reader.specs.Read.{values_in, values_on}
use Rattle.readings.specs.declared.Taken.TheVariants.{Values}
use Rattle.judging.proofs.Accepted.{Taken, taken_reads}
use Rattle.contents.proofs.RowLaws
use Rattle.acceptance.specs.Answer.{Registers, Sendable}
use Rattle.acceptance.proofs.Wire.{bytes_append, bytes_cons, no_bytes, wire_back, wire_bytes}
use Rattle.acceptance.proofs.SealedIsAccepted.{bytes, own, takes}

module _ (q : Question) (good : good_question q ≡ true) (s : Sendable q) (room : ℕ) (enough : (shape_of q).values ≤ room) where
  module _ (lo : 3 ≤ q.kind) (values : List ℕ) (number : length values ≡ (shape_of q).values) (registers : Registers values) where
    unfoldable pub read_covered_lem : List ℕ
    read_covered_lem = read_covered q values 0

    read_are_bytes : Bytes read_covered_lem
    unfolding read_covered_lem
    read_are_bytes =
        bytes_cons (shape_of q).first (q.reg ∷ (on_wire values ++ (0 ∷ []))) (good_first q good)
        (bytes_cons q.reg (on_wire values ++ (0 ∷ [])) s.reg
        (bytes_append (on_wire values) (0 ∷ []) (wire_bytes values registers) (bytes_cons 0 [] (lit< tt) no_bytes)))

    read_len : length read_covered_lem ≡ (shape_of q).covered
    unfolding read_covered_lem
    read_len =
        omega (arith, length-append (on_wire values) (0 ∷ []), length_wire values, (read_shape q lo).covered)

    unfoldable pub read_line : List ℕ
    read_line = line_of (sealed q (shape_of q).acting read_covered_lem)

    -- what stands behind the covered part
    behind : List ℕ
    behind = pec_of read_covered_lem ∷ alive_byte q (shape_of q).acting

    read_sealed : List ℕ
    read_sealed = sealed q (shape_of q).acting read_covered_lem

    -- byte 2 + i of the answer, among the values and the check byte
    inner : (i : ℕ) → i < 2 * length values + 1 → byte_in read_sealed (2 + i) ≡ get_or (on_wire values ++ (0 ∷ [])) i 0
    unfolding read_sealed read_covered_lem behind sealed
    inner i h =
        let two : 2 + i ≡ suc (suc i) = omega arith in
        let size = length-append (on_wire values) (0 ∷ []) in
        let wire = length_wire values in
        ap (byte_in (sealed q (shape_of q).acting read_covered_lem)) two ∙ get_or-append (on_wire values ++ (0 ∷ [])) behind 0 i (omega arith)

    check_clear : check_byte q read_sealed ≡ 0
    check_clear =
        sym (RowLaws.read_check q read_sealed lo) ∙ ap (λ (m : ℕ). byte_in read_sealed (2 + 2 * m)) (sym number) ∙ inner (2 * length values) (omega arith)
        ∙ get_or_at (on_wire values) 0 [] 0 (2 * length values) (length_wire values)

    read_takes : Taken q read_line room
    unfolding read_line read_sealed read_covered_lem bytes sealed
    read_takes =
        let shape = read_shape q lo in
        let words : (shape_of q).words ≡ 2 * ((shape_of q).covered + 1 + q.alive) + 2 = omega (arith, shape.words, shape.covered) in
        takes q good s room enough (omega arith) read_covered_lem read_are_bytes read_len words
        (sym (RowLaws.read_echo q read_sealed refl lo refl)) check_clear

    pub read_reads : judge_of q read_line room ≡ Ok (Values (shape_of q).values)
    read_reads = taken_reads q read_line room read_takes ∙ sym (RowLaws.read_taken q (bytes_of read_line) lo)

    own_bytes : bytes_of read_line ≡ read_sealed
    unfolding read_line read_sealed bytes
    own_bytes = own q good s room enough (omega arith) read_covered_lem read_are_bytes read_len

    -- each device's value, once, in address order
    pub read_hands_out : values_on read_line (shape_of q).values ≡ values
    unfolding read_sealed read_covered_lem behind sealed
    read_hands_out =
        ap₂ values_in own_bytes (sym number)
        ∙ ap (λ (l : List ℕ). values_in ((shape_of q).first ∷ q.reg ∷ l) (length values)) (append_assoc (on_wire values) (0 ∷ []) behind)
        ∙ wire_back (shape_of q).first q.reg values (0 ∷ behind) registers
