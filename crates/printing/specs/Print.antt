-- A certificate printed into lent memory: all of it at the front, the rest as it was; or nothing.
use Rattle.std.specs.Prelude.{◌≡◌, cond, List, ℕ, ◌+◌, leb, length, Result, Ok, Err}
use Rattle.std.proofs.lemmas.List.Edits.{sets}
use Rattle.lines.specs.Write.{at_front, left_by}
use Rattle.letters.specs.declared.Standing.{Standing}
use Rattle.printing.specs.Text.{certificate_text}
use Rattle.numbers.specs.Numbers.{answer_number}
use Rattle.jobs.specs.declared.FileRefusal.{FileRefusal}
use Rattle.jobs.specs.declared.FileRefusal.TheVariants as refusal
use Rattle.printing.specs.declared.PrintRefusal.{PrintRefusal}
use Rattle.printing.specs.declared.PrintRefusal.TheVariants.{Many, Room}
use Rattle.printing.specs.declared.figures.Sheet.{Sheet}

-- a header of 7 bytes and entries of at least 8: of 65,536 bytes, 8,191 entries
abbrev pub most_entries : ℕ
most_entries = 8191

-- the answer: more entries than a file can have, then ROOM, else how many bytes the text has
unfoldable pub printed_of : (version n : ℕ) (numbers : List ℕ) → Standing → (text : List ℕ) → Result ℕ PrintRefusal
printed_of version n numbers s text =
    cond (leb (length numbers) most_entries)
    (cond (leb (length (certificate_text version n numbers s)) (length text)) (Ok (length (certificate_text version n numbers s))) (Err Room))
    (Err Many)

-- document 01's number of a refusal: no job file has more entries, so that too many are FILE
abbrev pub print_refusal_number : PrintRefusal → ℕ
print_refusal_number Many = 14
print_refusal_number Room = 2

-- said of the job file whose entries they are
abbrev pub of_print_refusal : PrintRefusal → FileRefusal
of_print_refusal Many = refusal.File
of_print_refusal Room = refusal.Room

-- document 01's number of an answer
abbrev pub printed_number : Result ℕ PrintRefusal → ℕ
printed_number = answer_number print_refusal_number

-- what `print` says and leaves
pub record PrintDone (version n : ℕ) (numbers : List ℕ) (s : Standing) (before after : List ℕ) (r : Result ℕ PrintRefusal) : Type 0 where
  pub says : r ≡ printed_of version n numbers s before
  pub leaves : after ≡ left_by (printed_number (printed_of version n numbers s before)) (at_front (certificate_text version n numbers s) before) before

-- bytes stored from a place on, as far as there is room, and counted
pub record StoredAt (before : List ℕ) (at : ℕ) (bytes after : List ℕ) (end : ℕ) : Type 0 where
  pub leaves : after ≡ sets before at bytes
  pub up : end ≡ at + length bytes

-- the same on a sheet, which lies on the same memory all the while
pub record Laid (before : Sheet) (bytes : List ℕ) (after : Sheet) : Type 0 where
  pub same : after.text.ghost_name ≡ before.text.ghost_name
  pub stored : StoredAt before.text.now before.at bytes after.text.now after.at
