-- THE C SIDE, COMMANDS: demand 2 over bytes. A command is written exactly where the question is good and the output has two bytes for each of
-- its words; then the table's command line stands at the front of the output, two bytes a word, low first, the rest as it was, and bits 16 to
-- 31 of the answer say how many words. Claimed of every question, every output, and every answer that meets `bmc_command`'s
-- contract.
use Rattle.std.specs.Prelude.{◌≡◌, List, ℕ, ◌/◌, length}
use Rattle.packing.specs.Words.{as_bytes}
use Rattle.questions.specs.declared.question.Question.{Question}
use Rattle.c_commands.specs.CommandBytes.{CommandBytesDone}
use Rattle.promises.specs.ByNumber.{packed_number}
use Rattle.promises.specs.WhereDue.{WhereDue}
use Rattle.promises.specs.Demand2.{CommandDue}
use Rattle.promises.specs.CSide.{upper_half}

-- where due, two bytes being lent for a word, and an odd last byte counting for none
abbrev pub CSideCommands : Type 0
CSideCommands =
    (q : Question) (before : List ℕ)
    → WhereDue packed_number before (CommandBytesDone q before) Unit (CommandDue q (length before / 2)) (λ line r. upper_half r ≡ length line) as_bytes
