-- THE C SIDE, TAKEN APART: what is packed into one number can be had back from it. Bits 0 to 7 are the reading's own number; of a reading turned
-- away bits 8 to 15 are its byte (CHECK, COUNT) and bits 16 to 31 its place (CHARACTER, MANCHESTER); of an accepted one they are HELLOALL's
-- count and the number of values; the byte and the place are those that stand on the line, as document 01's row says. Claimed of every question, every line of bytes, every output, and every answer that meets `bmc_read`'s contract; the reading is `read`'s, on the words of the
-- line, with room for as many values as the output has two bytes.
use Rattle.std.specs.Prelude.{◌≡◌, List, ℕ, ◌/◌, length, Result, Err}
use Rattle.packing.specs.Words.{line_on}
use Rattle.questions.specs.declared.question.Question.{Question}
use Rattle.readings.specs.declared.Refusal.{Refusal}
use Rattle.readings.specs.declared.Taken.{Taken}
use Rattle.reader.specs.Read.{ReadDone}
use Rattle.c_reader.specs.ReadBytes.{ReadBytesDone}
use Rattle.promises.specs.Rows.{Carried}
use Rattle.promises.specs.CSide.{PackedAs}

abbrev pub CSidePacked : Type 0
CSidePacked =
    (q : Question) (line before after : List ℕ) (r : ℕ) → ReadBytesDone q line before after r
    → (values left : List ℕ) (reading : Result Taken Refusal) → length values ≡ length before / 2 → ReadDone q (line_on line) values left reading
    → PackedAs r reading × ((why : Refusal) → reading ≡ Err why → Carried q (line_on line) why)
