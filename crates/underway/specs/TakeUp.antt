-- A question's command taken up by a device, or left alone.
use Rattle.std.specs.Prelude.{◌≡◌, ℕ, suc, ◌+◌, ◌*◌, ◌/◌, ◌%◌, Bool, cond, ◌&&◌, List, ◌++◌, ◌==◌, nat_le, nat_lt, slice_index}
use Rattle.ground.specs.Same.{same}
use Rattle.characters.specs.Nibble.{nibble_word}
use Rattle.lines.specs.Line.{line_of}
use Rattle.writing.specs.PutLine.{out_of}
use Rattle.questions.specs.Question.{write_device, good_question}
use Rattle.questions.specs.Shape.{shape_of}
use Rattle.questions.specs.Bytes.{low_high}
use Rattle.questions.specs.declared.question.Question.{Question}
use Rattle.underway.specs.OnTheWay.{on_the_way, wire_of}

-- m values can stand on the line before a device that has yet to put its own in: fewer than a read asks for; no other command has any
abbrev pub may_carry : Question → (m : ℕ) → Bool
may_carry q m = nat_lt m (cond (nat_le q.kind write_device) 1 (shape_of q).values)

-- such a command can come to device k: the question is good, and there is room for its value
abbrev pub possible : Question → (k m : ℕ) → Bool
possible q k m = good_question q && may_carry q m && nat_lt k 32

-- the bytes of the command as the devices before device k left it, with m values; what they added to the alive byte is in its seed
abbrev pub met_bytes : Question → (k m : ℕ) → (line : List ℕ) → List ℕ
met_bytes q k m line = on_the_way q k 0 (wire_of line m)

-- The bytes as device k hands them on: HELLOALL's last byte and the alive byte one more, its own value directly after the register byte,
-- one fill pair less, the PEC worked afresh.
abbrev pub handed_bytes : Question → (k own m : ℕ) → (line : List ℕ) → List ℕ
handed_bytes q k own m line = on_the_way q (suc k) 1 (low_high own ++ wire_of line m)

-- the line is that command
unfoldable pub is_met : Question → (k m : ℕ) → (line : List ℕ) → Bool
is_met q k m line = possible q k m && same line (line_of (met_bytes q k m line))

-- what `take_up` says and leaves: the command handed on in the line's place, where it is that command; else the line as it was
pub record TakenUp (q : Question) (k own m : ℕ) (before after : List ℕ) (r : Bool) : Type 0 where
  pub says : r ≡ is_met q k m before
  pub leaves : after ≡ cond (is_met q k m before) (out_of (handed_bytes q k own m before) before) before

-- two words of a line are byte i's
abbrev pub byte_stands : List ℕ → (i byte : ℕ) → Bool
byte_stands line i byte = slice_index line (2 * i + 1) == nibble_word (byte % 16) && slice_index line (2 * i + 2) == nibble_word (byte / 16)
