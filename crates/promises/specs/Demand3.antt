-- DEMAND 3. A READALL answer with check byte 00h is accepted undamaged, given room for its values, and hands out each device's register once, in address order. With one
-- to five line bits turned over for 1 to 14 devices, or one to three for 15 to 32, it is turned away, and the output stays as it was.
-- Claimed of every good READALL question, alive on and off, any seed, any register, any values; of bits in any places; and of every answer that
-- meets `read`'s contract.
use Rattle.std.specs.Prelude.{◌≡◌, true, cond, List, ℕ, ◌≤◌, leb, length, Result, Ok}
use Rattle.remainder.specs.Turned.{turned, weight}
use Rattle.lines.specs.Line.{line_of}
use Rattle.lines.specs.Write.{at_front}
use Rattle.questions.specs.Question.{read_all, good_question}
use Rattle.questions.specs.Bytes.{answer_bytes}
use Rattle.questions.specs.declared.question.Question.{Question}
use Rattle.readings.specs.Reading.{number_of}
use Rattle.readings.specs.declared.Refusal.{Refusal}
use Rattle.readings.specs.declared.Taken.{Taken}
use Rattle.readings.specs.declared.Taken.TheVariants.{Values}
use Rattle.reader.specs.Read.{ReadDone}
use Rattle.acceptance.specs.Answer.{Registers, Sendable}
use Rattle.promises.specs.Demand1.{TurnedAway}

-- a good READALL question, and a register's value for each of its devices, in address order
pub record ReadsAll (q : Question) (values : List ℕ) : Type 0 where
  pub kind : q.kind ≡ read_all
  pub good : good_question q ≡ true
  pub sends : Sendable q
  pub number : length values ≡ q.n
  pub registers : Registers values

-- the line of the table's answer bytes, with check byte 00h
abbrev pub answer_line : Question → (values : List ℕ) → List ℕ
answer_line q values = line_of (answer_bytes q values 0x00)

-- damage on a line: some bits turned over, in any places, no character lost or added; one mask a word, and from one to `most` bits in all
pub record Damage (line masks : List ℕ) (most : ℕ) : Type 0 where
  pub every : length masks ≡ length line
  pub some : 1 ≤ weight masks
  pub few : weight masks ≤ most

-- how many turned bits are always found: five with 1 to 14 devices, three with 15 to 32
abbrev pub most_bits : (n : ℕ) → ℕ
most_bits n = cond (leb n 14) 5 3

-- what is claimed of the reader as a call has it: its contract, an answer's number, how words are passed, as they are or as bytes, and when an answer
-- stands for a reading
pub record Detects {Answer : Type 0} (Contract : Question → (line before after : List ℕ) → Answer → Type 0) (number : Answer → ℕ)
    (passed : List ℕ → List ℕ) (StandsFor : Answer → Result Taken Refusal → Type 0) : Type 0 where
  -- undamaged, the line is accepted, given room, and its values stand at the front of the output, the rest as it was
  pub undamaged : (q : Question) (values : List ℕ) → ReadsAll q values → (before after : List ℕ) (r : Answer)
      → length (passed values) ≤ length before → Contract q (passed (answer_line q values)) before after r
      → StandsFor r (Ok (Values q.n)) × (after ≡ at_front (passed values) before)
  -- damaged, it is turned away, and the output stays as it was
  pub damaged : (q : Question) (values : List ℕ) → ReadsAll q values → (masks : List ℕ) → Damage (answer_line q values) masks (most_bits q.n)
      → (before after : List ℕ) (r : Answer) → Contract q (passed (turned (answer_line q values) masks)) before after r
      → TurnedAway (number r) × (after ≡ before)

abbrev pub Demand3 : Type 0
Demand3 = Detects ReadDone number_of (λ words. words) (λ r reading. r ≡ reading)
