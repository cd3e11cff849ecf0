-- The command writer (document 01): QUESTION, then ROOM, else the command's line at the front of the lent words, the rest as it was. Turned
-- away, nothing is written. It knows no other rows.
use Rattle.std.specs.Prelude.{◌≡◌, cond, List, ℕ, leb, length, Result, Ok, Err}
use Rattle.lines.specs.Line.{line_of}
use Rattle.lines.specs.Write.{at_front, left_by}
use Rattle.writing.specs.declared.NoRoom.{NoRoom}
use Rattle.questions.specs.Question.{good_question}
use Rattle.questions.specs.Bytes.{command_bytes}
use Rattle.questions.specs.declared.question.Question.{Question}
use Rattle.numbers.specs.Numbers.{answer_number}
use Rattle.commands.specs.declared.CommandRefusal.{CommandRefusal}
use Rattle.commands.specs.declared.CommandRefusal.TheVariants as refused

-- the command on the line
abbrev pub command_line : Question → List ℕ
command_line q = line_of (command_bytes q)

-- the two refusals
abbrev pub bad_question : CommandRefusal
bad_question = refused.Question

abbrev pub room : CommandRefusal
room = refused.Room

-- the answer, where so many words are lent: how many words the command has
unfoldable pub issued_of : Question → (lent : ℕ) → Result ℕ CommandRefusal
issued_of q lent =
    cond (good_question q)
    (cond (leb (length (command_line q)) lent) (Ok (length (command_line q))) (Err room))
    (Err bad_question)

-- the row of each refusal: 1 QUESTION, 2 ROOM
abbrev pub refusal_number : CommandRefusal → ℕ
refusal_number refused.Question = 1
refusal_number refused.Room = 2

-- document 01's number for each answer: 0 where the command was written, 1 QUESTION, 2 ROOM
abbrev pub issued_number : Result ℕ CommandRefusal → ℕ
issued_number = answer_number refusal_number

-- what `write_command` says and leaves
pub record CommandPut (q : Question) (before after : List ℕ) (r : Result ℕ CommandRefusal) : Type 0 where
  pub says : r ≡ issued_of q (length before)
  pub leaves : after ≡ left_by (issued_number (issued_of q (length before))) (at_front (command_line q) before) before

-- a line put, or no room for it, said as the command writer's answer
abbrev pub issued_as : Result ℕ NoRoom → Result ℕ CommandRefusal
issued_as (Ok n) = Ok n
issued_as (Err why) = Err room
