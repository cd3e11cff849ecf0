-- Why an answer is turned away, over bytes (document 02, M-101; document 01, "The C side").
use Rattle.std.specs.Prelude.{List, ℕ, ◌+◌, ◌*◌, min, length, Result, Ok, Err, Option, Some, None}
use Rattle.packing.specs.Words.{line_on}
use Rattle.questions.specs.Shape.{shape_of}
use Rattle.questions.specs.declared.question.Question.{Question}
use Rattle.readings.specs.Reading.{refusal_number}
use Rattle.reasons.specs.Reason.{found, reason_of}
use Rattle.reasons.specs.declared.Field.{Field}
use Rattle.reasons.specs.declared.Field.TheVariants as field
use Rattle.reasons.specs.declared.Spot.{Spot}
use Rattle.reasons.specs.declared.Spot.TheVariants.{Asked, Whole, Word, Byte}
use Rattle.reasons.specs.declared.Because.{Because}

-- LENGTH counts bytes: so many stood, and twice the answer's words would have passed; every other spot is as on words
abbrev pub counted_in : Question → (bytes : ℕ) → Because → Spot → Because
counted_in q bytes b Whole = found b.why Whole bytes (Some (2 * (shape_of q).words))
counted_in q bytes b (Asked f) = b
counted_in q bytes b (Word i) = b
counted_in q bytes b (Byte i) = b

abbrev pub in_bytes : Question → (bytes : ℕ) → Result (Unit {0}) Because → Result (Unit {0}) Because
in_bytes q bytes (Ok pass) = Ok tt
in_bytes q bytes (Err b) = Err (counted_in q bytes b b.spot)

-- the reason of a line of bytes: that of its words, which are none where the number of bytes is odd
unfoldable pub reason_on : Question → (line : List ℕ) → Result (Unit {0}) Because
reason_on q line = in_bytes q (length line) (reason_of q (line_on line))

-- ---- packed into one number

-- how a spot is placed: 1 a word, 2 a byte, 3 the line, 4 a field of the question
abbrev pub how_placed : Spot → ℕ
how_placed (Word i) = 1
how_placed (Byte i) = 2
how_placed Whole = 3
how_placed (Asked f) = 4

-- a field as the argument of the C call, counted from 0
abbrev pub argument_of : Field → ℕ
argument_of field.Kind = 0
argument_of field.Devices = 1
argument_of field.Alive = 2
argument_of field.Device = 5

-- and where: the word or the byte, 0 for the line, the field's argument
abbrev pub place_of : Spot → ℕ
place_of (Word i) = i
place_of (Byte i) = i
place_of Whole = 0
place_of (Asked f) = argument_of f

-- whether one thing alone would have passed, and which
abbrev pub is_one : Option ℕ → ℕ
is_one (Some x) = 1
is_one None = 0

abbrev pub right_of : Option ℕ → ℕ
right_of (Some x) = x
right_of None = 0

-- sixteen bits of a number: 65,535 for more
abbrev pub sixteen : ℕ → ℕ
sixteen x = min x 65535

-- Bits 0 to 7 the number; bits 8 to 10 how it is placed; bit 11 whether one thing alone would have passed; bits 16 to 31 the place; bits 32 to 47 what
-- stood; bits 48 to 63 the one thing.
abbrev pub packed_because : Because → ℕ
packed_because b =
    refusal_number b.why + 256 * how_placed b.spot + 2048 * is_one b.right
    + 65536 * sixteen (place_of b.spot) + 4294967296 * sixteen b.stood + 281474976710656 * sixteen (right_of b.right)

-- 0 where the line is accepted
abbrev pub packed_reason : Result (Unit {0}) Because → ℕ
packed_reason (Ok pass) = 0
packed_reason (Err b) = packed_because b

abbrev pub packed_on : Question → (line : List ℕ) → ℕ
packed_on q line = packed_reason (reason_on q line)
