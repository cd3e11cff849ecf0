-- A line written into lent words: all of it at the front, the rest as it was; or nothing.
use Rattle.std.specs.Prelude.{◌≡◌, cond, List, ℕ, ◌+◌, ◌*◌, ◌/◌, ◌%◌, leb, length, set, Result, Ok, Err}
use Rattle.characters.specs.Nibble.{nibble_word}
use Rattle.lines.specs.Line.{line_of}
use Rattle.lines.specs.Write.{at_front, left_by}
use Rattle.numbers.specs.Numbers.{answer_number}
use Rattle.writing.specs.declared.NoRoom.{NoRoom}

-- the one refusal
abbrev pub no_room : NoRoom
no_room = record {}

-- the answer: how many words the line has, where it fits
unfoldable pub put_of : (bytes out : List ℕ) → Result ℕ NoRoom
put_of bytes out = cond (leb (length (line_of bytes)) (length out)) (Ok (length (line_of bytes))) (Err no_room)

-- the row of a line that found no room: 2 ROOM
abbrev pub no_room_number : NoRoom → ℕ
no_room_number _ = 2

-- document 01's number for each answer: 0 where the line was put, 2 ROOM
abbrev pub put_number : Result ℕ NoRoom → ℕ
put_number = answer_number no_room_number

-- the lent words after the call
unfoldable pub out_of : (bytes out : List ℕ) → List ℕ
out_of bytes out = left_by (put_number (put_of bytes out)) (at_front (line_of bytes) out) out

-- what `put_line` says and leaves
pub record LinePut (bytes before after : List ℕ) (r : Result ℕ NoRoom) : Type 0 where
  pub says : r ≡ put_of bytes before
  pub leaves : after ≡ out_of bytes before

-- one byte's two characters at their places
abbrev pub with_byte : List ℕ → ℕ → ℕ → List ℕ
with_byte out i byte = set (set out (2 * i + 1) (nibble_word (byte % 16))) (2 * i + 2) (nibble_word (byte / 16))
