-- The certificate of a job file (document 01, "Job file and certificate"; document 02, M-100): FILE, then ROOM, else exactly its text at the front
-- of the lent memory, the rest as it was.
use Rattle.std.specs.Prelude.{◌≡◌, cond, List, map, ℕ, leb, length, drop, Result, Ok, Err}
use Rattle.lines.specs.Write.{at_front, left_by}
use Rattle.numbers.specs.Numbers.{answer_number}
use Rattle.jobs.specs.declared.FileRefusal.{FileRefusal}
use Rattle.jobs.specs.declared.FileRefusal.TheVariants.{File, Room}
use Rattle.jobs.specs.Format.{head_size}
use Rattle.jobs.specs.Refusals.{file_number}
use Rattle.jobs.specs.Check.{header_in, entries_in, good_file}
use Rattle.letters.specs.declared.Standing.{Standing}
use Rattle.letters.specs.Letters.{Heard, standing_after}
use Rattle.listening.specs.Listening.{heard_of, number_for}
use Rattle.printing.specs.Text.{certificate_text}

-- the entries of a file heard, in their order
abbrev pub heard_in : (file : List ℕ) → List Heard
heard_in file = map (heard_of (header_in file)) (entries_in (header_in file).version (drop head_size file))

-- the number of each entry: 0 for accepted
abbrev pub numbers_of : List Heard → List ℕ
numbers_of es = map number_for es

-- the last good write and the letters, after all entries
abbrev pub standing_of : (file : List ℕ) → Standing
standing_of file = standing_after (heard_in file)

-- the text
unfoldable pub certificate_of : (file : List ℕ) → List ℕ
certificate_of file = certificate_text (header_in file).version (header_in file).n (numbers_of (heard_in file)) (standing_of file)

-- the answer: FILE, then ROOM
unfoldable pub certified_of : (file text : List ℕ) → Result ℕ FileRefusal
certified_of file text =
    cond (good_file file) (cond (leb (length (certificate_of file)) (length text)) (Ok (length (certificate_of file))) (Err Room)) (Err File)

-- document 01's number of an answer
abbrev pub certified_number : Result ℕ FileRefusal → ℕ
certified_number = answer_number file_number

-- the lent memory after the call
abbrev pub text_left : (file before : List ℕ) → List ℕ
text_left file before = left_by (certified_number (certified_of file before)) (at_front (certificate_of file) before) before

-- what `certify` says and leaves
pub record CertificateDone (file before after : List ℕ) (r : Result ℕ FileRefusal) : Type 0 where
  pub says : r ≡ certified_of file before
  pub leaves : after ≡ text_left file before

-- memory of this size holds every certificate: 9 bytes for the first line, 10 for each of 8,191 entries, 7 for each of 32 devices
abbrev pub most_text : ℕ
most_text = 82143
