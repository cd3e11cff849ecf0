-- THE STARRED NUMBERS (document 01, "Worked numbers"): a single table under a single claim. In each row stand what the definitions work out and
-- the document's own figure, bytes or microvolts, and the two are the same.
use Rattle.std.specs.Prelude.{◌≡◌, List, [], ◌∷◌, ℕ, pos, neg_ℤ}
use Rattle.pec.specs.Pec.{pec_of}
use Rattle.questions.specs.Question.{asking, write_all, read_all}
use Rattle.questions.specs.Shape.{shape_of}
use Rattle.questions.specs.Bytes.{alive_byte, command_bytes, answer_bytes}
use Rattle.questions.specs.declared.question.Question.{Question}
use Rattle.cells.specs.Voltage.{steps_of, microvolts_of}
use Rattle.cells.specs.declared.Range.TheVariants.{Unipolar, Bipolar}

-- READALL of 12h, one device, alive off
abbrev pub read_all12 : Question
read_all12 = asking read_all 1 0 0x12 0 0 0

-- the alive byte that comes back to a seed from so many devices
abbrev pub alive_back : (seed n : ℕ) → List ℕ
alive_back seed n = let q : Question = asking write_all n 1 0 0 0 seed in alive_byte q (shape_of q).acting

abbrev pub StarredNumbers : Type 0
StarredNumbers =
    (pec_of [] ≡ 0x00)
    × (pec_of (0x01 ∷ []) ≡ 0x3E)
    × (pec_of (0x02 ∷ []) ≡ 0x7C)
    × (pec_of (0x03 ∷ []) ≡ 0x42)
    × (pec_of (0x03 ∷ 0x12 ∷ 0x00 ∷ []) ≡ 0xCB)
    × (pec_of (0x03 ∷ 0x12 ∷ 0x00 ∷ 0x00 ∷ 0x00 ∷ []) ≡ 0xBC)
    × (command_bytes read_all12 ≡ (0x03 ∷ 0x12 ∷ 0x00 ∷ 0xCB ∷ 0xC2 ∷ 0xD3 ∷ []))
    × (answer_bytes read_all12 (0x0000 ∷ []) 0x00 ≡ (0x03 ∷ 0x12 ∷ 0x00 ∷ 0x00 ∷ 0x00 ∷ 0xBC ∷ []))
    × (alive_back 0xFF 1 ≡ (0x00 ∷ []))
    × (alive_back 0xF0 32 ≡ (0x10 ∷ []))
    × (microvolts_of (steps_of Unipolar 128) ≡ pos 39_063)
    × (microvolts_of (steps_of Bipolar 8064) ≡ neg_ℤ (pos 39_063))
    × (microvolts_of (steps_of Bipolar 0) ≡ neg_ℤ (pos 2_500_000))
    × (microvolts_of (steps_of Unipolar 16383) ≡ pos 4_999_695)
