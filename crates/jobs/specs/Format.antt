-- The job file to the byte (document 01, "Job file and certificate"; document 02, M-100), by encoding: the bytes of a header, of an entry, of a
-- file. The mark is three ASCII bytes; a field not called 16 bits is one byte; 16 bits go low byte first.
use Rattle.std.specs.Prelude.{cond, List, [], ◌∷◌, ◌++◌, ℕ, ◌+◌, leb, length}
use Rattle.packing.specs.Words.{low_high, as_bytes}
use Rattle.questions.specs.Question.{asking}
use Rattle.questions.specs.declared.question.Question.{Question}
use Rattle.jobs.specs.declared.Header.{Header}

-- an entry: what was asked, the bits that a write is expected to show, and the words that came back
pub record Entry : Type 0 where
  pub kind : ℕ
  pub reg : ℕ
  pub value : ℕ
  pub mask : ℕ
  pub device : ℕ
  pub seed : ℕ
  pub words : List ℕ

-- a field that the format has since a version
abbrev pub since : (from version : ℕ) → (field : List ℕ) → List ℕ
since from version field = cond (leb from version) field []

-- the mark BMC, the version (16 bits), n, alive
abbrev pub header_bytes : Header → List ℕ
header_bytes h = 0x42 ∷ 0x4D ∷ 0x43 ∷ (low_high h.version ++ (h.n ∷ h.alive ∷ []))

-- kind, register, value (16 bits), since version 2 the mask (16 bits), device, seed, number of words (16 bits)
abbrev pub field_bytes : (version kind reg value mask device seed words : ℕ) → List ℕ
field_bytes version kind reg value mask device seed words =
    kind ∷ reg ∷ (low_high value ++ (since 2 version (low_high mask) ++ (device ∷ seed ∷ low_high words)))

-- how many bytes that is, for every header and every entry
unfoldable pub head_size : ℕ
head_size = length (header_bytes (record { version = 0; n = 0; alive = 0 }))

unfoldable pub field_size : (version : ℕ) → ℕ
field_size version = length (field_bytes version 0 0 0 0 0 0 0)

-- the place of the mask, behind the value; and the one behind both, where device, seed and the number of words stand
abbrev pub mask_place : ℕ
mask_place = 4

unfoldable pub behind_mask : (version : ℕ) → ℕ
behind_mask version = mask_place + length (since 2 version (low_high 0))

-- an entry: its fields, and the answer's words
abbrev pub entry_bytes : (version : ℕ) → Entry → List ℕ
entry_bytes version e =
    field_bytes version e.kind e.reg e.value e.mask e.device e.seed (length e.words) ++ as_bytes e.words

unfoldable pub entries_bytes : (version : ℕ) → List Entry → List ℕ
entries_bytes version [] = []
entries_bytes version (e ∷ es) = entry_bytes version e ++ entries_bytes version es

abbrev pub file_bytes : Header → List Entry → List ℕ
file_bytes h es = header_bytes h ++ entries_bytes h.version es

-- the entry's question: n and alive stand in the header
abbrev pub asked : Header → Entry → Question
asked h e = asking e.kind h.n h.alive e.reg e.value e.device e.seed
