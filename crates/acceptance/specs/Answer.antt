-- The right answers to a question (document 01, "Commands and answers", and what demand 2 says of acceptance).
use Rattle.std.specs.Prelude.{◌≡◌, List, [], ◌∷◌, ℕ, ◌≤◌, ◌<◌, length, get_or, Result, Ok}
use Rattle.lines.specs.Line.{line_of}
use Rattle.questions.specs.Question.{hello_all, write_all, write_device, read_all, read_device, by_form}
use Rattle.questions.specs.Shape.{shape_of}
use Rattle.questions.specs.Bytes.{answer_bytes}
use Rattle.questions.specs.declared.question.Question.{Question}
use Rattle.readings.specs.Reading.{values_taken}
use Rattle.judging.specs.Judge.{judge_of}
use Rattle.reader.specs.Read.{values_on}
use Rattle.readings.specs.declared.Refusal.{Refusal}
use Rattle.readings.specs.declared.Taken.{Taken}
use Rattle.readings.specs.declared.Taken.TheVariants.{Counted, Written, Values}

-- every number of the list is a register's value
abbrev pub Registers : List ℕ → Type 0
Registers values = (i : ℕ) → get_or values i 0 < 65536

-- what HELLOALL brings back: one count, 1..32
pub record OneCount (values : List ℕ) : Type 0 where
  pub count : ℕ
  pub only : values ≡ count ∷ []
  pub least : 1 ≤ count
  pub most : count ≤ 32

-- what a read brings back: as many values as it asks for
pub record AllValues (q : Question) (values : List ℕ) : Type 0 where
  pub number : length values ≡ (shape_of q).values
  pub registers : Registers values

-- what a right answer carries: HELLOALL's a count, a write's nothing, a read's the values in address order
pub data Fitting (q : Question) (values : List ℕ) : Type 0 where
  hello : q.kind ≡ hello_all → OneCount values → Fitting q values
  write : write_all ≤ q.kind → q.kind ≤ write_device → values ≡ [] → Fitting q values
  read : read_all ≤ q.kind → q.kind ≤ read_device → AllValues q values → Fitting q values

-- the line is the line of the right answer that carries these values, with check byte 00h
pub record AnswerTo (q : Question) (values line : List ℕ) : Type 0 where
  pub fitting : Fitting q values
  pub written : line ≡ line_of (answer_bytes q values 0)

-- the reading of a right answer, and the values that it hands out
abbrev pub reading_of : Question → List ℕ → Result Taken Refusal
reading_of q values = by_form q.kind (Ok (Counted (get_or values 0 0))) (Ok Written) (Ok (Values (shape_of q).values))

abbrev pub handed_out : Question → List ℕ → List ℕ
handed_out q values = by_form q.kind [] [] values

-- what acceptance means: the line is a right answer's, the reading is that answer's, and so are the values handed out
pub record Answered (q : Question) (line : List ℕ) (room : ℕ) : Type 0 where
  pub values : List ℕ
  pub answer : AnswerTo q values line
  pub reading : judge_of q line room ≡ reading_of q values
  pub handed : values_on line (values_taken (judge_of q line room)) ≡ handed_out q values

-- The fields that a question sends are numbers of their types. Every question that a program can make has this, since `reg` is a u8 and
-- `value` a u16.
pub record Sendable (q : Question) : Type 0 where
  pub reg : q.reg < 256
  pub value : q.value < 65536
