-- How far the right answers to one READALL question are apart on the line: twice as many bits as their values, with the check byte, and
-- the two PECs differ in. The first two bytes and the alive byte are the same in all of them.
use mathlib.Core.Path.{◌≡◌, sym, ap, ap₂, ◌∙◌}
use mathlib.Core.Bool.{true}
use mathlib.Core.List.{List, [], ◌∷◌, ◌++◌}
use Prim.Native.Nat.{ℕ, ◌+◌, ◌*◌, ◌≤◌}
use native.Mathlib.Omega.{arith}
use lib.Bits.{bit_xor, xor_self}
use lib.Count.{ones}
use lib.ListN.{length, length-append}
use Rattle.remainder.specs.Register.{run}
use Rattle.remainder.specs.Turned.{turned, weight, distance, Bytes}
use Rattle.remainder.proofs.Turned.{no_ones, distance_self, distance_append, distance_turned}
use Rattle.pec.specs.Pec.{byte_step, pec_of}
use Rattle.pec.specs.Distance.{apart_by}
use Rattle.pec.proofs.Distance.{distance_two, distance_three}
use Rattle.lines.specs.Line.{line_of}
use Rattle.lines.proofs.LineDistance.{line_distance}
use Rattle.questions.specs.Question.{read_all, good_question}
use Rattle.questions.specs.Shape.{shape_of}
use Rattle.questions.specs.Bytes.{on_wire, alive_byte, sealed, read_covered, answer_bytes}
use Rattle.questions.specs.declared.question.Question.{Question}
use Rattle.questions.proofs.ByKind.{of_read}
use Rattle.questions.proofs.Good.{good_alive, good_first}
use Rattle.acceptance.specs.Answer.{Registers, Sendable, AllValues}
use Rattle.questions.proofs.Wire.{length_wire}
use Rattle.acceptance.proofs.Wire.{bytes_append, bytes_cons, no_bytes, wire_bytes}
use Rattle.acceptance.proofs.Sealed.{length_sealed, sealed_bytes}
use Rattle.promises.specs.Demand3.{ReadsAll, answer_line}

-- the bytes that can differ between two answers to one question: the values and the check byte
abbrev pub varied : List ℕ → List ℕ
varied values = on_wire values ++ (0 ∷ [])

pub length_varied : (values : List ℕ) → length (varied values) ≡ 2 * length values + 1
length_varied values = omega (arith, length-append (on_wire values) (0 ∷ []), length_wire values)

pub varied_bytes : (values : List ℕ) → Registers values → Bytes (varied values)
varied_bytes values r = bytes_append (on_wire values) (0 ∷ []) (wire_bytes values r) (bytes_cons 0 [] (omega arith) no_bytes)

-- of a READALL with its values, what is said of the question alone
pub record AsksAll (q : Question) : Type 0 where
  pub kind : q.kind ≡ read_all
  pub good : good_question q ≡ true
  pub sends : Sendable q

pub asks_all : (q : Question) (values : List ℕ) → ReadsAll q values → AsksAll q
asks_all q values all = record { kind = all.kind; good = all.good; sends = all.sends }

module _ (q : Question) (asks : AsksAll q) where
  -- the start state that the first two bytes leave, the same for every answer
  unfoldable pub start : ℕ
  start = byte_step (byte_step 0 (shape_of q).first) q.reg

  pub answer : (values : List ℕ) → answer_bytes q values 0 ≡ sealed q (shape_of q).acting (read_covered q values 0)
  unfolding answer_bytes
  answer values = of_read q.kind _ _ _ (omega (arith, asks.kind))

  pub answer_are_bytes : (values : List ℕ) → Registers values → Bytes (sealed q (shape_of q).acting (read_covered q values 0))
  answer_are_bytes values r =
      sealed_bytes q (shape_of q).acting (good_alive q asks.good) (read_covered q values 0)
      (bytes_cons (shape_of q).first (q.reg ∷ varied values) (good_first q asks.good)
      (bytes_cons q.reg (varied values) asks.sends.reg (varied_bytes values r)))

  -- two answers are as far apart as their varied bytes and the two remainders
  apart : (v w : List ℕ) → length v ≡ length w
      → distance (sealed q (shape_of q).acting (read_covered q v 0)) (sealed q (shape_of q).acting (read_covered q w 0)) ≡ apart_by start (varied v) (varied w)
  unfolding sealed distance apart_by start pec_of run
  apart v w e =
      let same : length (varied v) ≡ length (varied w) = omega (arith, length_varied v, length_varied w) in
      let alive = alive_byte q (shape_of q).acting in
      let middle = distance_append (varied v) (varied w) (pec_of (read_covered q v 0) ∷ alive) (pec_of (read_covered q w 0) ∷ alive) same in
      let first : ones (bit_xor (shape_of q).first (shape_of q).first) ≡ 0 = ap ones (xor_self (shape_of q).first) ∙ no_ones in
      let second : ones (bit_xor q.reg q.reg) ≡ 0 = ap ones (xor_self q.reg) ∙ no_ones in
      let last = distance_self alive in
      omega arith

  -- ---- a line that bits turned over lead to another answer

  module _ (values other : List ℕ) (fits : AllValues q values) (fits' : AllValues q other) where
    same_number : length values ≡ length other
    same_number = fits.number ∙ sym fits'.number

    same_length : length (varied values) ≡ length (varied other)
    same_length = omega (arith, length_varied values, length_varied other, same_number)

    sealed_long : length (sealed q (shape_of q).acting (read_covered q values 0)) ≡ length (sealed q (shape_of q).acting (read_covered q other 0))
    sealed_long =
        omega (
          arith,
          length_sealed q (shape_of q).acting (good_alive q asks.good) (read_covered q values 0),
          length_sealed q (shape_of q).acting (good_alive q asks.good) (read_covered q other 0),
          length_varied values,
          length_varied other,
          same_number,
        )

    -- the two lines differ in twice as many bits as the answers
    pub lines_apart : distance (answer_line q values) (answer_line q other) ≡ 2 * apart_by start (varied values) (varied other)
    lines_apart =
        ap₂ (λ (x y : List ℕ). distance (line_of x) (line_of y)) (answer values) (answer other)
        ∙ line_distance _ _ sealed_long (answer_are_bytes values fits.registers) (answer_are_bytes other fits'.registers)
        ∙ ap (λ (d : ℕ). 2 * d) (apart values other same_number)

    -- answers that do not differ are no bits apart
    together : varied values ≡ varied other → apart_by start (varied values) (varied other) ≡ 0
    unfolding apart_by
    together e =
        ap (λ (l : List ℕ). apart_by start (varied values) l) (sym e)
        ∙ ap₂ ◌+◌ (distance_self (varied values)) (ap ones (xor_self (run byte_step start (varied values))) ∙ no_ones)

    module _ (masks : List ℕ) (every : length masks ≡ length (answer_line q values)) (some : 1 ≤ weight masks)
        (is_turned : turned (answer_line q values) masks ≡ answer_line q other) where
      twice : weight masks ≡ 2 * apart_by start (varied values) (varied other)
      twice =
          sym (distance_turned (answer_line q values) masks every) ∙ ap (distance (answer_line q values)) is_turned ∙ lines_apart

      differ : varied values ≡ varied other → ⊥
      differ e = omega (arith, twice, together e)

      -- two bits apart at least, and three where they are few: four and six on the line
      pub four_at_least : 4 ≤ weight masks
      four_at_least =
          omega (
            arith,
            twice,
            distance_two start (varied values) (varied other) same_length (varied_bytes values fits.registers)
                (varied_bytes other fits'.registers) differ,
          )

      pub six_at_least : length values ≤ 14 → 6 ≤ weight masks
      six_at_least few =
          omega (
            arith,
            twice,
            distance_three start (varied values) (varied other) same_length (omega (arith, length_varied values))
                (varied_bytes values fits.registers) (varied_bytes other fits'.registers) differ,
          )
