-- Rows 1 to 11 of "Turned away" as they apply to the reader, each said of the question, the line and the output as document 01's table says it;
-- and what a refusal carries.
use Rattle.std.specs.Prelude.{◌≡◌, Bool, true, false, ◌⊎◌, ℕ, ◌+◌, ◌*◌, ◌%◌, ◌≤◌, ◌<◌, length, get_or, take}
use mathlib.Core.List.{List, [], ◌∷◌, get_last_d}
use Rattle.pec.specs.Pec.{pec_of}
use Rattle.characters.specs.Character.{preamble, stop}
use Rattle.characters.specs.Nibble.{is_nibble}
use Rattle.character_check.specs.Check.{is_character}
use Rattle.lines.specs.Line.{bytes_of}
use Rattle.questions.specs.Question.{hello_all, write_all, read_all, by_form, good_question}
use Rattle.questions.specs.Shape.{shape_of}
use Rattle.questions.specs.Bytes.{write_covered}
use Rattle.questions.specs.declared.question.Question as asked
use Rattle.readings.specs.declared.Refusal.{Refusal}
use Rattle.readings.specs.declared.Refusal.TheVariants.{Character, Manchester, Check, Count}
use Rattle.promises.specs.ByNumber.{Row, row}

-- what an answer repeats: the first byte, then of HELLOALL 00, of any other the register, and of a write the value
abbrev pub echo : asked.Question → List ℕ
echo q = by_form q.kind ((shape_of q).first ∷ 0 ∷ []) (write_covered q) ((shape_of q).first ∷ q.reg ∷ [])

-- 10 CHECK: of a read, behind the values
abbrev pub check_in : asked.Question → List ℕ → ℕ
check_in q bytes = get_or bytes (2 + 2 * (shape_of q).values) 0

-- 11 COUNT: HELLOALL's last byte
abbrev pub count_in : List ℕ → ℕ
count_in bytes = get_or bytes 2 0

-- the table, in its order, where so many values are lent room
abbrev pub read_rows : asked.Question → (line : List ℕ) → (lent : ℕ) → List Row
read_rows q line lent =
    -- 1 QUESTION: kind above 4; alive not 0 or 1; for kinds 1 to 4, n not 1..32; for kinds 2 and 4, the command's device a is n or more
    row 1 (good_question q ≡ false)
    -- 2 ROOM: the lent output is shorter than what the call writes when nothing else is wrong
    ∷ row 2 (lent < (shape_of q).values)
    -- 3 LENGTH: the line's length is not the answer's length
    ∷ row 3 (length line ≡ (shape_of q).words → ⊥)
    -- 4 CHARACTER: a word has bit 12..15 set, start 1, a stop bit 0, or odd parity
    ∷ row 4 ((i : ℕ) × (i < length line) × (is_character (get_or line i 0) ≡ false))
    -- 5 FRAME: first word no preamble or last no stop
    ∷ row 5 ((get_or line 0 0 ≡ preamble → ⊥) ⊎ (get_last_d line 0 ≡ stop → ⊥))
    -- 6 MANCHESTER: a word between is no nibble
    ∷ row 6 ((i : ℕ) × (1 ≤ i) × (i + 1 < length line) × (is_nibble (get_or line i 0) ≡ false))
    -- 7 ECHO: the first or second byte, or a write's value, is not what was asked
    ∷ row 7 ((i : ℕ) × (i < length (echo q)) × (get_or (bytes_of line) i 0 ≡ get_or (echo q) i 0 → ⊥))
    -- 8 PEC: the PEC is wrong (HELLOALL has none)
    ∷ row 8 ((write_all ≤ q.kind) × (get_or (bytes_of line) (shape_of q).covered 0 ≡ pec_of (take (shape_of q).covered (bytes_of line)) → ⊥))
    -- 9 ALIVE: alive is on and its byte is not as in the table (HELLOALL has none)
    ∷ row 9 ((write_all ≤ q.kind) × (q.alive ≡ 1) × (get_or (bytes_of line) ((shape_of q).covered + 1) 0 ≡ (q.seed + (shape_of q).acting) % 256 → ⊥))
    -- 10 CHECK: a read's check byte is not 00h
    ∷ row 10 ((read_all ≤ q.kind) × (check_in q (bytes_of line) ≡ 0 → ⊥))
    -- 11 COUNT: HELLOALL's last byte is 0 or above 32
    ∷ row 11 ((q.kind ≡ hello_all) × ((count_in (bytes_of line) ≡ 0) ⊎ (32 < count_in (bytes_of line))))
    ∷ []

-- the lowest place whose word fails a check, so many words being left out at either end
pub record Lowest (check : ℕ → Bool) (line : List ℕ) (ends i : ℕ) : Type 0 where
  pub from : ends ≤ i
  pub below : i + ends < length line
  pub fails : check (get_or line i 0) ≡ false
  pub lower_pass : (j : ℕ) → ends ≤ j → j < i → check (get_or line j 0) ≡ true

-- what a refusal carries: CHARACTER and MANCHESTER "with the lowest such place", CHECK and COUNT "with the byte"
pub record Carried (q : asked.Question) (line : List ℕ) (why : Refusal) : Type 0 where
  pub character : (i : ℕ) → why ≡ Character i → Lowest is_character line 0 i
  pub manchester : (i : ℕ) → why ≡ Manchester i → Lowest is_nibble line 1 i
  pub check : (b : ℕ) → why ≡ Check b → b ≡ check_in q (bytes_of line)
  pub count : (b : ℕ) → why ≡ Count b → b ≡ count_in (bytes_of line)
