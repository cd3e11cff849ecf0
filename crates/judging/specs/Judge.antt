-- The table "Turned away" of document 01, rows 1 to 11 in their order: rows 1 to 6 are the list here, and rows 7 to 11 the list `byte_rows` of
-- crates/contents/specs/InOrder.antt. `rows_of` joins them. Each check runs over the whole line before the next.
use Rattle.std.specs.Prelude.{List, [], ◌∷◌, ◌++◌, ℕ, eqb, leb, length, Result, Ok, Err, Option, Some, None}
use Rattle.lines.specs.Line.{bytes_of}
use Rattle.scanning.specs.Place.{first_no_character, first_no_nibble}
use Rattle.scanning.specs.Frame.{framed}
use Rattle.questions.specs.Question.{good_question}
use Rattle.questions.specs.Shape.{shape_of}
use Rattle.questions.specs.declared.question.Question as asked
use Rattle.contents.specs.Rows.{taken_of}
use Rattle.contents.specs.InOrder.{byte_rows}
use Rattle.readings.specs.FirstFault.{Said, given_unless, first_fault, said}
use Rattle.readings.specs.declared.Refusal.{Refusal}
use Rattle.readings.specs.declared.Refusal.TheVariants.{Question, Room, Length, Character, Frame, Manchester}
use Rattle.readings.specs.declared.Taken.{Taken}

-- a row that looks for a place, and is given with that place
abbrev pub given_at : (ℕ → Refusal) → Option ℕ → Said
given_at why (Some i) = Err (why i)
given_at why None = Ok tt

-- rows 1 to 6, on the question, the room and the line's words
unfoldable pub screen_rows : asked.Question → List ℕ → (room : ℕ) → List Said
screen_rows q line room =
    -- 1 QUESTION: kind above 4; alive not 0 or 1; for kinds 1 to 4, n not 1..32; for kinds 2 and 4, the command's device a is n or more
    given_unless Question (good_question q)
    -- 2 ROOM: the lent output is shorter than what the call writes when nothing else is wrong
    ∷ given_unless Room (leb (shape_of q).values room)
    -- 3 LENGTH: the line's length is not the answer's length
    ∷ given_unless Length (eqb (length line) (shape_of q).words)
    -- 4 CHARACTER: a word has bit 12..15 set, start 1, a stop bit 0, or odd parity; with the lowest such place
    ∷ given_at Character (first_no_character line)
    -- 5 FRAME: first word no preamble or last no stop
    ∷ given_unless Frame (framed line)
    -- 6 MANCHESTER: a word between is no nibble; with the lowest such place
    ∷ given_at Manchester (first_no_nibble line)
    ∷ []

-- all of them; rows 7 to 11, ECHO, PEC, ALIVE, CHECK and COUNT, look at the bytes between the ends
unfoldable pub rows_of : asked.Question → List ℕ → (room : ℕ) → List Said
rows_of q line room = screen_rows q line room ++ byte_rows q (bytes_of line)

-- what the reader says: the first row that is given, or what is taken where none is
unfoldable pub judge_of : asked.Question → List ℕ → (room : ℕ) → Result Taken Refusal
judge_of q line room = said (first_fault (rows_of q line room)) (taken_of q (bytes_of line))

-- rows 1 to 6 by themselves
unfoldable pub screen_of : asked.Question → List ℕ → (room : ℕ) → Said
screen_of q line room = first_fault (screen_rows q line room)
