-- A covered part, sealed, as writes and reads are answered: its line is let through where the echo and the check byte are right.
use mathlib.Core.Path.{◌≡◌, refl, sym, ap, ◌∙◌}
use mathlib.Core.Bool.{true}
use mathlib.Core.List.{List}
use Prim.Native.Nat.{ℕ, zero, suc, ◌+◌, ◌*◌, ◌%◌, ◌≤◌}
use native.Mathlib.Omega.{arith}
use lib.ListN.{length, take}
use borrow.Author.Tests.{eq-eqb}
use Rattle.remainder.specs.Turned.{Bytes}
use Rattle.pec.specs.Pec.{pec_of}
use Rattle.lines.specs.Line.{line_of, bytes_of}
use Rattle.lines.proofs.Line.{length_line, bytes_of_line}
use Rattle.scanning.proofs.Whole.{line_passes}
use Rattle.questions.specs.Question.{good_question}
use Rattle.questions.specs.Shape.{shape_of}
use Rattle.questions.specs.Bytes.{sealed}
use Rattle.questions.specs.declared.question.Question.{Question}
use Rattle.questions.proofs.Good.{good_alive}
use Rattle.contents.specs.Rows.{byte_in, echoed, pec_right, alive_right, check_byte}
use Rattle.judging.proofs.Accepted.{Taken}
use Rattle.contents.proofs.RowLaws
use Rattle.acceptance.specs.Answer.{Sendable}
use Rattle.acceptance.proofs.Sealed.{length_sealed, sealed_front, sealed_pec, sealed_alive, sealed_bytes}

module _ (q : Question) (good : good_question q ≡ true) (s : Sendable q) (room : ℕ) (enough : (shape_of q).values ≤ room) where
  alive : q.alive ≤ 1
  alive = good_alive q good

  module _ (lo : 1 ≤ q.kind) (covered : List ℕ) (b : Bytes covered) (len : length covered ≡ (shape_of q).covered) where
    unfoldable pub bytes : List ℕ
    bytes = sealed q (shape_of q).acting covered

    all_bytes : Bytes bytes
    unfolding bytes
    all_bytes = sealed_bytes q (shape_of q).acting alive covered b

    many : length bytes ≡ (shape_of q).covered + 1 + q.alive
    unfolding bytes
    many = length_sealed q (shape_of q).acting alive covered ∙ ap (λ (k : ℕ). k + 1 + q.alive) len

    -- the bytes of the line are those of the answer
    pub own : bytes_of (line_of bytes) ≡ bytes
    own = bytes_of_line bytes all_bytes

    pec_held : pec_right q bytes ≡ true
    unfolding bytes
    pec_held =
        let c = (shape_of q).covered in
        sym (RowLaws.other_pec q bytes lo)
        ∙ eq-eqb (byte_in bytes c) (pec_of (take c bytes))
        (ap (byte_in bytes) (sym len) ∙ sealed_pec q (shape_of q).acting covered
        ∙ sym (ap (λ (k : ℕ). pec_of (take k bytes)) (sym len) ∙ ap pec_of (sealed_front q (shape_of q).acting covered)))

    alive_held : alive_right q bytes ≡ true
    unfolding bytes
    alive_held = by_alive q.alive refl
      where
        by_alive : (a : ℕ) → q.alive ≡ a → alive_right q bytes ≡ true
        by_alive zero e = sym (RowLaws.no_alive q bytes lo (λ one. omega arith))
        by_alive (suc zero) e =
            let c = (shape_of q).covered in
            sym (RowLaws.some_alive q bytes lo e)
            ∙ eq-eqb (byte_in bytes (c + 1)) ((q.seed + (shape_of q).acting) % 256)
            (ap (λ (k : ℕ). byte_in bytes (k + 1)) (sym len) ∙ sealed_alive q (shape_of q).acting covered e)
        by_alive (suc (suc a)) e = absurd (omega (arith, alive))

    pub takes : (shape_of q).words ≡ 2 * ((shape_of q).covered + 1 + q.alive) + 2 → echoed q bytes ≡ true → check_byte q bytes ≡ 0
        → Taken q (line_of bytes) room
    takes words echo check =
        record {
          good = good;
          enough = enough;
          words = length_line bytes ∙ ap (λ (k : ℕ). 2 * k + 2) many ∙ sym words;
          rows = line_passes bytes all_bytes;
          echo = ap (echoed q) own ∙ echo;
          pec = ap (pec_right q) own ∙ pec_held;
          alive = ap (alive_right q) own ∙ alive_held;
          check = ap (check_byte q) own ∙ check;
          count = sym (RowLaws.no_count q (bytes_of (line_of bytes)) lo);
        }
