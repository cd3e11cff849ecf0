-- The command writer over bytes (document 01, "The C side"): the answer packed into one number, and the command's words as two bytes each, low
-- first, at the front of the lent bytes. An odd last byte counts for no room, and stays.
use Rattle.std.specs.Prelude.{◌≡◌, List, ℕ, ◌+◌, ◌*◌, ◌/◌, length, Result, Ok, Err}
use Rattle.std.proofs.lemmas.List.Edits.{sets}
use Rattle.lines.specs.Write.{at_front, left_by}
use Rattle.packing.specs.Words.{as_bytes}
use Rattle.questions.specs.declared.question.Question.{Question}
use Rattle.commands.specs.Command.{command_line, issued_of, issued_number}
use Rattle.commands.specs.declared.CommandRefusal.{CommandRefusal}

-- how many words a command was written with
abbrev pub words_issued : Result ℕ CommandRefusal → ℕ
words_issued (Ok n) = n
words_issued (Err why) = 0

-- bits 0 to 7 the number, bits 16 to 31 how many words were written
abbrev pub packed_issued : Result ℕ CommandRefusal → ℕ
packed_issued i = issued_number i + 65536 * words_issued i

-- some bytes with some words laid from a place on
abbrev pub laid : List ℕ → (at : ℕ) → (words : List ℕ) → List ℕ
laid bytes at words = sets bytes at (as_bytes words)

-- what `command_bytes` says and leaves: two bytes of room a word
pub record CommandBytesDone (q : Question) (before after : List ℕ) (r : ℕ) : Type 0 where
  pub says : r ≡ packed_issued (issued_of q (length before / 2))
  pub leaves : after ≡ left_by (issued_number (issued_of q (length before / 2))) (at_front (as_bytes (command_line q)) before) before
