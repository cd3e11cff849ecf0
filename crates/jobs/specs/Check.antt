-- Which bytes are a job file, and what stands in it (document 01, "Job file and certificate"; document 02, M-100). FILE is given exactly when
-- `good_file` is false. That a file is good exactly when it is the encoding of a header and entries that keep the rules is proved in
-- proofs/GoodFile.antt.
use Rattle.std.specs.Prelude.{Bool, true, cond, ◌&&◌, List, [], ◌∷◌, ℕ, zero, suc, ◌+◌, ◌*◌, leb, eqb, length, get_or, take, drop}
use Rattle.std.specs.Prelude.{Option, Some, None, Result, Ok, Err}
use Rattle.numbers.specs.Numbers.{answer_number}
use Rattle.packing.specs.Words.{words_of}
use Rattle.questions.specs.declared.question.Question.{Question}
use Rattle.masks.specs.Masks.{mask_of}
use Rattle.jobs.specs.declared.Header.{Header}
use Rattle.jobs.specs.declared.Cursor.{Cursor}
use Rattle.jobs.specs.declared.EntryAt.{EntryAt}
use Rattle.jobs.specs.declared.NoJob.{NoJob}
use Rattle.jobs.specs.Format.{Entry, field_bytes, head_size, field_size, mask_place, behind_mask, asked}
use Rattle.jobs.specs.Rules.{good_header, keeps_rules}
use Rattle.jobs.specs.Refusals.{not_job, no_job_number}

-- 16 bits of two bytes, low first
abbrev pub pair_at : List ℕ → (i j : ℕ) → ℕ
pair_at bytes i j = get_or bytes i 0 + 256 * get_or bytes j 0

-- the number of words of the entry at the front of some bytes, and its size in bytes
abbrev pub words_in : (version : ℕ) → List ℕ → ℕ
words_in version front = pair_at front (behind_mask version + 2) (behind_mask version + 3)

abbrev pub size_in : (version : ℕ) → List ℕ → ℕ
size_in version front = field_size version + 2 * words_in version front

-- how many of them stand behind its first byte
abbrev pub behind_first : (version : ℕ) → List ℕ → ℕ
behind_first version front = length (drop 1 (field_bytes version 0 0 0 0 0 0 0)) + 2 * words_in version front

-- its mask: the one that stands there, and where the version has none the one that goes without saying
abbrev pub mask_in : (version : ℕ) → List ℕ → ℕ
mask_in version front = mask_of version (get_or front 0 0) (pair_at front mask_place (mask_place + 1))

-- the entry at the front of some bytes
abbrev pub entry_in : (version : ℕ) → List ℕ → Entry
entry_in version front = record {
  kind = get_or front 0 0;
  reg = get_or front 1 0;
  value = pair_at front 2 3;
  mask = mask_in version front;
  device = get_or front (behind_mask version) 0;
  seed = get_or front (behind_mask version + 1) 0;
  words = words_of (take (2 * words_in version front) (drop (field_size version) front));
}

abbrev pub asked_in : Header → List ℕ → Question
asked_in h front = asked h (entry_in h.version front)

-- not cut short, and keeping the rules
unfoldable pub good_entry : Header → List ℕ → Bool
good_entry h front =
    leb (field_size h.version) (length front) && leb (size_in h.version front) (length front) && keeps_rules h (entry_in h.version front)

-- The entries from some bytes on, one after the other: the bytes of an entry are passed over before the next begins.
module _ (version : ℕ) {A : Type 0} (end : A) (entry : (front : List ℕ) → (later : A) → A) where
  unfoldable pub walk_from : (pass : ℕ) → List ℕ → A
  walk_from pass [] = end
  walk_from zero (b ∷ bytes) = entry (b ∷ bytes) (walk_from (behind_first version (b ∷ bytes)) bytes)
  walk_from (suc pass) (b ∷ bytes) = walk_from pass bytes

-- every entry is good
abbrev pub good_entries : Header → List ℕ → Bool
good_entries h bytes = walk_from h.version true (λ (front : List ℕ) (later : Bool). good_entry h front && later) 0 bytes

-- the entries
abbrev pub entries_in : (version : ℕ) → List ℕ → List Entry
entries_in version bytes = walk_from version [] (λ (front : List ℕ) (later : List Entry). entry_in version front ∷ later) 0 bytes

-- the mark BMC
unfoldable pub marked : List ℕ → Bool
marked file = eqb (get_or file 0 0) 0x42 && eqb (get_or file 1 0) 0x4D && eqb (get_or file 2 0) 0x43

abbrev pub header_in : List ℕ → Header
header_in file = record { version = pair_at file 3 4; n = get_or file 5 0; alive = get_or file 6 0 }

-- FILE is given exactly when this is false: the file is longer than 65,536 bytes, the header is cut short or wrong, or an entry is not good
unfoldable pub good_file : List ℕ → Bool
good_file file =
    leb (length file) 65536 && leb head_size (length file) && marked file && good_header (header_in file) && good_entries (header_in file) (drop head_size file)

-- what `open` says
unfoldable pub opened_of : List ℕ → Result Header NoJob
opened_of file = cond (good_file file) (Ok (header_in file)) (Err not_job)

-- document 01's number of that answer
abbrev pub opened_number : Result Header NoJob → ℕ
opened_number = answer_number no_job_number

-- an entry with its place, and where the next one stands
abbrev pub placed_in : Header → (at : ℕ) → (front : List ℕ) → EntryAt × Cursor
placed_in h at front = (
  record { question = asked_in h front; mask = mask_in h.version front; start = at + field_size h.version; words = words_in h.version front },
  record { at = at + size_in h.version front },
)

abbrev pub next_in : Header → (at : ℕ) → (rest : List ℕ) → Result (Option (EntryAt × Cursor)) NoJob
next_in h at [] = Ok None
next_in h at (b ∷ rest) = cond (good_entry h (b ∷ rest)) (Ok (Some (placed_in h at (b ∷ rest)))) (Err not_job)

-- what `next` says: from the cursor on
unfoldable pub next_of : Header → List ℕ → Cursor → Result (Option (EntryAt × Cursor)) NoJob
next_of h file c = next_in h c.at (drop c.at file)

-- document 01's number of that answer: the end of the entries is no refusal
abbrev pub next_number : Result (Option (EntryAt × Cursor)) NoJob → ℕ
next_number = answer_number no_job_number
