-- The bytes of a command before its fill pairs, as the writers lay them out: at the front of six places, and how many of these they are.
use Rattle.std.specs.Prelude.{cond, [], ◌∷◌, ◌++◌, ℕ, ◌+◌, ◌%◌, eqb}
use Rattle.pec.specs.Pec.{pec_of}
use Rattle.questions.specs.Question.{by_form}
use Rattle.questions.specs.Shape.{shape_of}
use Rattle.questions.specs.Bytes.{low_high}
use Rattle.questions.specs.declared.question.Question.{Question}
use Rattle.heads.specs.declared.Head.{Head}

-- so many bytes, and one more where the bench has the alive byte on
abbrev pub with_alive : Question → (bytes : ℕ) → ℕ
with_alive q bytes = cond (eqb q.alive 1) (bytes + 1) bytes

-- HELLOALL: three bytes
abbrev pub hello_head : (first : ℕ) → Head
hello_head first = record { bytes = first ∷ 0 ∷ 0 ∷ 0 ∷ 0 ∷ 0 ∷ []; count = 3 }

-- a write: first byte, register, value, PEC, and the alive byte where there is one
abbrev pub write_head : (first : ℕ) → Question → Head
write_head first q =
    record {
      bytes = first ∷ q.reg ∷ (low_high q.value ++ (pec_of (first ∷ q.reg ∷ low_high q.value) ∷ q.seed ∷ []));
      count = with_alive q 5;
    }

-- a read: first byte, register, 00, PEC, and the alive byte where there is one; the last place is none of it
abbrev pub read_head : (first : ℕ) → Question → Head
read_head first q = record { bytes = first ∷ q.reg ∷ 0 ∷ pec_of (first ∷ q.reg ∷ 0 ∷ []) ∷ q.seed ∷ 0 ∷ []; count = with_alive q 4 }

-- of any question, by its form; the first byte of a good one is below 256
unfoldable pub head_of : Question → Head
head_of q =
    let first = (shape_of q).first % 256 in
    by_form q.kind (hello_head first) (write_head first q) (read_head first q)
