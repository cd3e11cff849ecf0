-- THE C SIDE, ANSWERS: demand 2 over bytes. An answer is accepted exactly where the question is good, the output has two bytes for each value,
-- and the bytes are those of the line of a right answer for some values; what is handed out is those values in address order, lowest first,
-- two bytes each, low first. Claimed of every question, every line of bytes, every output, and every answer that meets
-- `bmc_read`'s contract.
use Rattle.std.specs.Prelude.{List, ℕ, ◌/◌, length}
use Rattle.packing.specs.Words.{as_bytes, line_on}
use Rattle.questions.specs.declared.question.Question.{Question}
use Rattle.acceptance.specs.Answer.{Sendable, reading_of, handed_out}
use Rattle.c_reader.specs.ReadBytes.{ReadBytesDone}
use Rattle.promises.specs.ByNumber.{packed_number}
use Rattle.promises.specs.WhereDue.{WhereDue}
use Rattle.promises.specs.Demand2.{Due}
use Rattle.promises.specs.CSide.{PackedAs}

-- where due, two bytes being lent for a value, and an odd last byte counting for none; the line's bytes stand for their words, two bytes a word, and
-- an odd number of them for no line at all
abbrev pub CSideAnswers : Type 0
CSideAnswers =
    (q : Question) (line before : List ℕ)
    → WhereDue packed_number before (ReadBytesDone q line before) (Sendable q) (Due q (line_on line) (length before / 2))
    (λ values r. PackedAs r (reading_of q values)) (λ values. as_bytes (handed_out q values))
