-- What rows 7 to 11 of "Turned away" ask of the bytes that a line carries between its ends, and what is taken where every row passes.
-- A row is given where what it asks for is not so; the rows in their order are in InOrder.antt.
use Rattle.std.specs.Prelude.{ℕ, ◌+◌, ◌*◌, ◌/◌, ◌%◌, Bool, true, cond, ◌&&◌, List, take, ◌==◌, nat_le, slice_index, Result, Ok}
use Rattle.pec.specs.Pec.{pec_of}
use Rattle.questions.specs.Question.{by_form}
use Rattle.questions.specs.Shape.{shape_of}
use Rattle.questions.specs.declared.question.Question as asked
use Rattle.readings.specs.declared.Refusal.{Refusal}
use Rattle.readings.specs.declared.Taken.{Taken}
use Rattle.readings.specs.declared.Taken.TheVariants.{Counted, Written, Values}

-- byte i of an answer; past the end it reads as 0
abbrev pub byte_in : List ℕ → ℕ → ℕ
byte_in bytes i = slice_index bytes i

-- a write's value is what was asked
abbrev pub value_echoed : asked.Question → List ℕ → Bool
value_echoed q bytes = byte_in bytes 2 == q.value % 256 && byte_in bytes 3 == q.value / 256

-- 7 ECHO: the first and second byte, and a write's value, are what was asked
unfoldable pub echoed : asked.Question → List ℕ → Bool
echoed q bytes =
    (byte_in bytes 0 == (shape_of q).first)
    && by_form q.kind
    (byte_in bytes 1 == 0)
    (byte_in bytes 1 == q.reg && value_echoed q bytes)
    (byte_in bytes 1 == q.reg)

-- 8 PEC: the PEC is that of the bytes before it. HELLOALL has none.
abbrev pub pec_held : asked.Question → List ℕ → Bool
pec_held q bytes = byte_in bytes (shape_of q).covered == pec_of (take (shape_of q).covered bytes)

unfoldable pub pec_right : asked.Question → List ℕ → Bool
pec_right q bytes = by_form q.kind true (pec_held q bytes) (pec_held q bytes)

-- 9 ALIVE: where alive is on, its byte is as in the table. HELLOALL has none.
abbrev pub alive_held : asked.Question → List ℕ → Bool
alive_held q bytes =
    cond (q.alive == 1)
    (byte_in bytes ((shape_of q).covered + 1) == (q.seed + (shape_of q).acting) % 256)
    true

unfoldable pub alive_right : asked.Question → List ℕ → Bool
alive_right q bytes = by_form q.kind true (alive_held q bytes) (alive_held q bytes)

-- 10 CHECK: a read's check byte, which stands behind the values, is 00h. The other kinds have none.
unfoldable pub check_byte : asked.Question → List ℕ → ℕ
check_byte q bytes = by_form q.kind 0 0 (byte_in bytes (2 + 2 * (shape_of q).values))

-- 11 COUNT: HELLOALL's last byte is 1 to 32. The other kinds have no count.
unfoldable pub count_right : asked.Question → List ℕ → Bool
count_right q bytes = by_form q.kind (nat_le 1 (byte_in bytes 2) && nat_le (byte_in bytes 2) 32) true true

-- what is taken: HELLOALL's count, a write as it is, and of a read as many values as it carries
unfoldable pub taken_of : asked.Question → List ℕ → Result Taken Refusal
taken_of q bytes = by_form q.kind (Ok (Counted (byte_in bytes 2))) (Ok Written) (Ok (Values (shape_of q).values))
