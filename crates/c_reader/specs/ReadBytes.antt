-- The reader over bytes (document 01, "The C side"): the reader's own definition on the words of the bytes, and its answer packed into one
-- number (crates/readings/specs/Packed.antt).
use Rattle.std.specs.Prelude.{◌≡◌, List, ℕ, ◌/◌, length, Result}
use Rattle.lines.specs.Write.{at_front}
use Rattle.packing.specs.Words.{line_on, as_bytes}
use Rattle.questions.specs.declared.question.Question.{Question}
use Rattle.readings.specs.Reading.{values_taken}
use Rattle.readings.specs.Packed.{packed_reading}
use Rattle.readings.specs.declared.Refusal.{Refusal}
use Rattle.readings.specs.declared.Taken.{Taken}
use Rattle.judging.specs.Judge.{judge_of}
use Rattle.reader.specs.Read.{values_on}

-- what the reader says of a line: an odd number of bytes is as no line at all, and so LENGTH, in LENGTH's place; two bytes of room a value, and
-- an odd last byte counts for none
unfoldable pub reading_on : Question → (line out : List ℕ) → Result Taken Refusal
reading_on q line out = judge_of q (line_on line) (length out / 2)

-- what `read_bytes` says and leaves: the values at the front of the output, two bytes each, low first, and the rest as it was
pub record ReadBytesDone (q : Question) (line before after : List ℕ) (r : ℕ) : Type 0 where
  pub says : r ≡ packed_reading (reading_on q line before)
  pub leaves : after ≡ at_front (as_bytes (values_on (line_on line) (values_taken (reading_on q line before)))) before
