-- DEMAND 2. Commands go out, and answers are taken or refused, exactly as data sheet 004 and document 01 define; a device holds a setting, in its
-- masked bits (document 02, M-100), only by an accepted read after the write. Claimed of every question, every line and every output, and of every
-- answer that meets the contract of `write_command` and of `read`:
-- a command is written exactly where the question is good and there is room, and then it is the table's command line and nothing else;
-- an answer is accepted exactly where the question is good, there is room, and the line is the line of a right answer for some values (of a
-- write, the one answer; of HELLOALL, some count 1..32), and what is handed out is those values, HELLOALL's count being the byte on the line;
-- an answer is refused exactly where a row of "Turned away" is given, by the first row that is, and with its place or byte.
-- What is claimed of the certificate stands in Certificate.antt.
use Rattle.std.specs.Prelude.{◌≡◌, true, List, ℕ, ◌≤◌, length, Result, Ok, Err}
use Rattle.lines.specs.Line.{bytes_of}
use Rattle.questions.specs.Question.{hello_all, good_question}
use Rattle.questions.specs.Shape.{shape_of}
use Rattle.questions.specs.declared.question.Question.{Question}
use Rattle.commands.specs.Command.{command_line, CommandPut, issued_number}
use Rattle.readings.specs.Reading.{number_of}
use Rattle.readings.specs.declared.Refusal.{Refusal}
use Rattle.readings.specs.declared.Taken.{Taken}
use Rattle.readings.specs.declared.Taken.TheVariants.{Counted}
use Rattle.reader.specs.Read.{ReadDone}
use Rattle.acceptance.specs.Answer.{AnswerTo, Sendable, reading_of, handed_out}
use Rattle.promises.specs.ByNumber.{NumberDue}
use Rattle.promises.specs.Rows.{count_in, read_rows, Carried}
use Rattle.promises.specs.WhereDue.{WhereDue}
use Rattle.promises.specs.Certificate.{PrintedCertificate}

-- when a command is due, where so many words are lent: the question is good, this is the line of the table's command bytes, and it has room
abbrev pub CommandDue : Question → (lent : ℕ) → (line : List ℕ) → Type 0
CommandDue q lent line = (good_question q ≡ true) × (line ≡ command_line q) × (length line ≤ lent)

-- when acceptance is due, where so many values are lent room: the question is good, the values have room, and the line is the line of the right
-- answer for these values
pub record Due (q : Question) (line : List ℕ) (lent : ℕ) (values : List ℕ) : Type 0 where
  pub good : good_question q ≡ true
  pub room : (shape_of q).values ≤ lent
  pub answer : AnswerTo q values line

pub record Demand2 : Type 0 where
  -- commands: written where due, and the answer says how many words they have
  pub commands : (q : Question) (before : List ℕ)
      → WhereDue issued_number before (CommandPut q before) Unit (CommandDue q (length before)) (λ line r. r ≡ Ok (length line)) (λ line. line)
  -- answers: accepted where due, for some values; the reading is that answer's, and those values are handed out
  pub answers : (q : Question) (line before : List ℕ)
      → WhereDue number_of before (ReadDone q line before) (Sendable q) (Due q line (length before)) (λ values r. r ≡ reading_of q values) (handed_out q)
  -- HELLOALL's count is the third byte of the line, whatever n the question has
  pub hello_count : (q : Question) (line before after : List ℕ) (r : Result Taken Refusal) → ReadDone q line before after r
      → q.kind ≡ hello_all → number_of r ≡ 0 → r ≡ Ok (Counted (count_in (bytes_of line)))
  -- turned away exactly where a row of the table is given, and by the first that is,
  pub by_rows : (q : Question) (line before after : List ℕ) (r : Result Taken Refusal) → ReadDone q line before after r
      → NumberDue (read_rows q line (length before)) (number_of r)
  -- with the place or the byte that the row has
  pub carried : (q : Question) (line before after : List ℕ) (r : Result Taken Refusal) → ReadDone q line before after r
      → (why : Refusal) → r ≡ Err why → Carried q line why
  -- command and answer have equal length, and never more than 140 words
  pub equal_length : (q : Question) → good_question q ≡ true → Sendable q → (values line : List ℕ) → AnswerTo q values line
      → (length line ≡ length (command_line q)) × (length line ≤ 140)
  -- the certificate says of a device only what it deserves, and all of it
  pub certificate : PrintedCertificate
