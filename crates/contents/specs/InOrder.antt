-- Rows 7 to 11 of "Turned away" in their order, on the bytes that a line carries. Rows 1 to 6, and all eleven together, are in
-- crates/judging/specs/Judge.antt.
use Rattle.std.specs.Prelude.{ℕ, List, [], ◌∷◌, ◌==◌, Result}
use Rattle.questions.specs.declared.question.Question as asked
use Rattle.readings.specs.FirstFault.{Said, given_unless, first_fault, said}
use Rattle.readings.specs.declared.Refusal.TheVariants.{Echo, Pec, Alive, Check, Count}
use Rattle.readings.specs.declared.Refusal.{Refusal}
use Rattle.readings.specs.declared.Taken.{Taken}
use Rattle.contents.specs.Rows.{byte_in, echoed, pec_right, alive_right, check_byte, count_right, taken_of}

unfoldable pub byte_rows : asked.Question → List ℕ → List Said
byte_rows q bytes =
    -- 7 ECHO: the first or second byte, or a write's value, is not what was asked
    given_unless Echo (echoed q bytes)
    -- 8 PEC: the PEC is wrong
    ∷ given_unless Pec (pec_right q bytes)
    -- 9 ALIVE: alive is on and its byte is not as in the table
    ∷ given_unless Alive (alive_right q bytes)
    -- 10 CHECK: a read's check byte is not 00h; with the byte
    ∷ given_unless (Check (check_byte q bytes)) (check_byte q bytes == 0)
    -- 11 COUNT: HELLOALL's last byte is 0 or above 32; with the byte
    ∷ given_unless (Count (byte_in bytes 2)) (count_right q bytes)
    ∷ []

-- what they say of an answer that rows 1 to 6 let pass
unfoldable pub judge_bytes : asked.Question → List ℕ → Result Taken Refusal
judge_bytes q bytes = said (first_fault (byte_rows q bytes)) (taken_of q bytes)
