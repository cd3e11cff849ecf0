-- Rows of "Turned away" as they apply to the calls besides the reader, in the order of their checks, each said as document 01's table says it.
-- What is one call's alone stands beside that call, in Demand1.antt.
use Rattle.std.specs.Prelude.{◌≡◌, true, false, ◌⊎◌, List, [], ◌∷◌, ◌++◌, ℕ, ◌+◌, ◌*◌, ◌/◌, ◌%◌, ◌≤◌, ◌<◌, length}
use Rattle.questions.specs.Question.{good_question}
use Rattle.questions.specs.declared.question.Question.{Question}
use Rattle.commands.specs.Command.{command_line}
use Rattle.cells.specs.Cell.{enabled}
use Rattle.jobs.specs.declared.Header.{Header}
use Rattle.jobs.specs.Format.{Entry, head_size, entry_bytes}
use Rattle.jobs.specs.Encoded.{Fits, Keeps, Encodes}
use Rattle.rehearsal.specs.Rehearsal.{answered_size}
use Rattle.promises.specs.ByNumber.{Row, row}
use Rattle.promises.specs.Certificate.{TextFor}

-- 2 ROOM: the lent output is shorter than what the call writes
abbrev pub room : (lent written : ℕ) → Row
room lent written = row 2 (lent < written)

-- the command writer knows only 1 QUESTION and 2 ROOM
abbrev pub command_rows : Question → (lent : ℕ) → List Row
command_rows q lent = row 1 (good_question q ≡ false) ∷ room lent (length (command_line q)) ∷ []

-- 15 TWIN: n not 1..32, or the register memory is not exactly 256 words, which are 512 bytes, for each device
abbrev pub NoChain : (each n size : ℕ) → Type 0
NoChain each n size = (n < 1) ⊎ ((32 < n) ⊎ (size ≡ each * n → ⊥))

-- or devices to be stepped, from .. to - 1, are not in the chain: their end is above the chain's, or below their beginning
abbrev pub NoSpan : (each n from to size : ℕ) → Type 0
NoSpan each n from to size = NoChain each n size ⊎ ((to < from) ⊎ (n < to))

-- a call of the twin that is lent a memory of such a size and an output: TWIN where it is given, then ROOM
abbrev pub twin_rows : (given : (size : ℕ) → Type 0) (size lent line : ℕ) → List Row
twin_rows given size lent line = row 15 (given size) ∷ room lent line ∷ []

-- and over bytes: whole words against whole words, then 3 LENGTH for an odd number of bytes
abbrev pub twin_bytes_rows : (given : (size : ℕ) → Type 0) (size lent line : ℕ) → List Row
twin_bytes_rows given size lent line = row 15 (given size) ∷ room (lent / 2) (line / 2) ∷ row 3 (line % 2 ≡ 0 → ⊥) ∷ []

-- 14 FILE: the bytes are the encoding of no header and entries that keep the rules
abbrev pub NoJobFile : (file : List ℕ) → Type 0
NoJobFile file = (h : Header) (es : List Entry) → Encodes h es file → ⊥

-- and of the bytes from a cursor on: they begin with the encoding of no entry that keeps the rules
abbrev pub NoEntry : Header → (rest : List ℕ) → Type 0
NoEntry h rest = (e : Entry) (later : List ℕ) → Fits h.version e → Keeps h e → rest ≡ entry_bytes h.version e ++ later → ⊥

-- an entry taken out, where something stands (behind the last entry is no refusal)
abbrev pub next_rows : Header → (rest : List ℕ) → List Row
next_rows h rest = row 14 ((1 ≤ length rest) × NoEntry h rest) ∷ []

-- a file certified: ROOM where its text is longer than what is lent
abbrev pub certify_rows : (file : List ℕ) (lent : ℕ) → List Row
certify_rows file lent = row 14 (NoJobFile file) ∷ row 2 ((text : List ℕ) × TextFor file text × (lent < length text)) ∷ []

-- a file with its answers, which are as long as the commands, has more bytes than so many
abbrev pub AnsweredAbove : (file : List ℕ) (most : ℕ) → Type 0
AnsweredAbove file most = (h : Header) × (es : List Entry) × Encodes h es file × (most < head_size + answered_size h es)

-- a file rehearsed: FILE also where it would be too long
abbrev pub rehearse_rows : (file : List ℕ) (lent : ℕ) → List Row
rehearse_rows file lent = row 14 (NoJobFile file ⊎ AnsweredAbove file 65536) ∷ row 2 (AnsweredAbove file lent) ∷ []

-- 12 CHANNEL: cell number not 1..12; 13 LOW BITS: either low bit of a measured cell's register is 1
abbrev pub cell_rows : (mask c register : ℕ) → List Row
cell_rows mask c register = row 12 ((c < 1) ⊎ (12 < c)) ∷ row 13 ((enabled mask c ≡ true) × (register % 4 ≡ 0 → ⊥)) ∷ []
