-- Why an answer is turned away (document 02, M-101): the reader's refusal, its spot, what stood there, and what would have passed there. What is
-- true of it is said in crates/promises/specs/TellMeWhy.antt, with no word of how it is found.
use Rattle.std.specs.Prelude.{ℕ, ◌+◌, ◌*◌, ◌/◌, ◌%◌, Bool, cond, ◌&&◌, List, [], ◌∷◌, length, drop, ◌==◌, nat_le, slice_index, slice_index_or, Result, Ok, Err, Option, Some, None}
use Rattle.ground.specs.Sweep.{tabulated}
use Rattle.numbers.specs.Numbers.{answer_number}
use Rattle.pec.specs.Pec.{pec_of}
use Rattle.characters.specs.Character.{preamble, stop}
use Rattle.lines.specs.Line.{byte_at}
use Rattle.questions.specs.Question.{by_form}
use Rattle.questions.specs.Shape.{shape_of}
use Rattle.questions.specs.declared.question.Question as asked
use Rattle.readings.specs.Reading.{refusal_number}
use Rattle.readings.specs.declared.Refusal.{Refusal}
use Rattle.readings.specs.declared.Refusal.TheVariants as row
use Rattle.readings.specs.declared.Taken.{Taken}
use Rattle.readings.specs.declared.Taken.TheVariants.{Counted, Written, Values}
use Rattle.judging.specs.Judge.{judge_of}
use Rattle.reasons.specs.declared.Field.{Field}
use Rattle.reasons.specs.declared.Field.TheVariants as field
use Rattle.reasons.specs.declared.Spot.{Spot}
use Rattle.reasons.specs.declared.Spot.TheVariants.{Asked, Whole, Word, Byte}
use Rattle.reasons.specs.declared.Because.{Because}

-- a reason of its four parts
abbrev pub found : Refusal → Spot → (stood : ℕ) → Option ℕ → Because
found why spot stood right = record { why = why; spot = spot; stood = stood; right = right }

-- ---- 1 QUESTION

-- what stands in a field of the question
abbrev pub field_in : asked.Question → Field → ℕ
field_in q field.Kind = q.kind
field_in q field.Alive = q.alive
field_in q field.Devices = q.n
field_in q field.Device = q.device

-- the first field, in the row's order kind, alive, n, device, that breaks its own clause, of a question that the row turns away
abbrev pub bad_field : asked.Question → Field
bad_field q =
    cond (nat_le q.kind 4) (cond (nat_le q.alive 1) (cond (nat_le 1 q.n && nat_le q.n 32) field.Device field.Devices) field.Alive) field.Kind

-- where n is 1 only device 0 is below it; every other clause leaves a choice
abbrev pub device_right : asked.Question → Option ℕ
device_right q = cond (q.n == 1) (Some 0) None

abbrev pub field_right : asked.Question → Field → Option ℕ
field_right q field.Kind = None
field_right q field.Alive = None
field_right q field.Devices = None
field_right q field.Device = device_right q

abbrev pub at_field : asked.Question → Field → Because
at_field q f = found row.Question (Asked f) (field_in q f) (field_right q f)

-- ---- what the other rows are told with: the line as a whole, a word of it, a byte of it

abbrev pub at_line : asked.Question → (line : List ℕ) → Refusal → Because
at_line q line why = found why Whole (length line) (Some (shape_of q).words)

abbrev pub at_word : (line : List ℕ) → Refusal → (i : ℕ) → Option ℕ → Because
at_word line why i right = found why (Word i) (slice_index line i) right

abbrev pub at_byte : (line : List ℕ) → Refusal → (i : ℕ) → Option ℕ → Because
at_byte line why i right = found why (Byte i) (byte_at line i) right

-- ---- 5 FRAME

-- the place of the last word: as many stand behind the first
abbrev pub last_place : List ℕ → ℕ
last_place line = length (drop 1 line)

-- the first word where it is no preamble, else the last
abbrev pub at_ends : (line : List ℕ) → Because
at_ends line =
    cond (slice_index line 0 == preamble)
    (at_word line row.Frame (last_place line) (Some stop))
    (at_word line row.Frame 0 (Some preamble))

-- ---- 7 ECHO

-- what an answer repeats: the first byte, then of HELLOALL 00 and of any other the register, then of a write the value, low byte and high byte (which
-- stands for every place from 3 on)
abbrev pub asked_byte : asked.Question → (i : ℕ) → ℕ
asked_byte q i = slice_index_or ((shape_of q).first ∷ by_form q.kind 0 q.reg q.reg ∷ q.value % 256 ∷ []) i (q.value / 256)

abbrev pub as_asked : asked.Question → (line : List ℕ) → (i : ℕ) → Bool
as_asked q line i = byte_at line i == asked_byte q i

-- the lowest byte that is not as asked, of a line that the row turns away
abbrev pub echo_place : asked.Question → (line : List ℕ) → ℕ
echo_place q line = cond (as_asked q line 0) (cond (as_asked q line 1) (cond (as_asked q line 2) 3 2) 1) 0

abbrev pub at_echo : asked.Question → (line : List ℕ) → Because
at_echo q line = at_byte line row.Echo (echo_place q line) (Some (asked_byte q (echo_place q line)))

-- ---- 8 PEC, 9 ALIVE, 10 CHECK

-- the PEC is that of the bytes before it as they stand
abbrev pub at_pec : asked.Question → (line : List ℕ) → Because
at_pec q line = at_byte line row.Pec (shape_of q).covered (Some (pec_of (tabulated (byte_at line) (shape_of q).covered 0)))

-- the alive byte stands behind the PEC, and is the seed and one for each device that acts; after FFh comes 00h
abbrev pub at_alive : asked.Question → (line : List ℕ) → Because
at_alive q line = at_byte line row.Alive ((shape_of q).covered + 1) (Some ((q.seed + (shape_of q).acting) % 256))

-- the check byte stands behind the values
abbrev pub at_check : asked.Question → (line : List ℕ) → Refusal → Because
at_check q line why = at_byte line why (2 + 2 * (shape_of q).values) (Some 0)

-- ---- all rows

-- the reason of a refusal (ROOM is never given, since there is room for any answer's values)
abbrev pub because_of : asked.Question → (line : List ℕ) → Refusal → Because
because_of q line row.Question = at_field q (bad_field q)
because_of q line row.Room = at_line q line row.Room
because_of q line row.Length = at_line q line row.Length
because_of q line (row.Character i) = at_word line (row.Character i) i None
because_of q line row.Frame = at_ends line
because_of q line (row.Manchester i) = at_word line (row.Manchester i) i None
because_of q line row.Echo = at_echo q line
because_of q line row.Pec = at_pec q line
because_of q line row.Alive = at_alive q line
because_of q line (row.Check b) = at_check q line (row.Check b)
because_of q line (row.Count b) = at_byte line (row.Count b) 2 None

abbrev pub reason_for : asked.Question → (line : List ℕ) → Result Taken Refusal → Result (Unit {0}) Because
reason_for q line (Ok (Counted n)) = Ok tt
reason_for q line (Ok Written) = Ok tt
reason_for q line (Ok (Values m)) = Ok tt
reason_for q line (Err why) = Err (because_of q line why)

-- why the reader takes a line or turns it away, where there is room for any answer's values
unfoldable pub reason_of : asked.Question → (line : List ℕ) → Result (Unit {0}) Because
reason_of q line = reason_for q line (judge_of q line 32)

-- document 01's number of it
abbrev pub because_number : Because → ℕ
because_number b = refusal_number b.why

abbrev pub reason_number : Result (Unit {0}) Because → ℕ
reason_number = answer_number because_number
