-- The table of document 01, "Commands and answers": the bytes of each command and of its right answer, and their lengths.
use Rattle.std.specs.Prelude.{cond, List, [], ◌∷◌, ◌++◌, reverse, ℕ, zero, suc, ◌+◌, ◌%◌, eqb}
use Rattle.packing.specs.Words.{as_bytes}
pub use Rattle.packing.specs.Words.{low_high}
use Rattle.pec.specs.Pec.{pec_of}
use Rattle.questions.specs.Question.{by_form}
use Rattle.questions.specs.Shape.{shape_of}
use Rattle.questions.specs.declared.question.Question.{Question}

-- the values of devices 0, 1, .. as they stand on the line: highest address first, each as its low byte and its high byte
unfoldable pub on_wire : List ℕ → List ℕ
on_wire values = as_bytes (reverse values)

-- [s]: the alive byte, present when the bench has it on; after FFh comes 00h
abbrev pub alive_byte : Question → (added : ℕ) → List ℕ
alive_byte q added = cond (eqb q.alive 1) ((q.seed + added) % 256 ∷ []) []

-- the covered bytes, their PEC, and the alive byte, which is not covered
unfoldable pub sealed : Question → (added : ℕ) → (covered : List ℕ) → List ℕ
sealed q added covered = covered ++ (pec_of covered ∷ alive_byte q added)

-- n times C2 D3
unfoldable pub fill_pairs : ℕ → List ℕ
fill_pairs zero = []
fill_pairs (suc n) = 0xC2 ∷ 0xD3 ∷ fill_pairs n

-- first byte, register, value
abbrev pub write_covered : Question → List ℕ
write_covered q = (shape_of q).first ∷ q.reg ∷ low_high q.value

-- first byte, register, values, check
abbrev pub read_covered : Question → (values : List ℕ) → (check : ℕ) → List ℕ
read_covered q values check = (shape_of q).first ∷ q.reg ∷ (on_wire values ++ (check ∷ []))

-- Command bytes
--   0 HELLOALL     57 00 00
--   1 WRITEALL     02 reg lo hi PEC [s]
--   2 WRITEDEVICE  a*8+4 reg lo hi PEC [s]
--   3 READALL      03 reg 00 PEC [s], then n times C2 D3
--   4 READDEVICE   a*8+5 reg 00 PEC [s] C2 D3
unfoldable pub command_bytes : Question → List ℕ
command_bytes q =
    by_form q.kind
    ((shape_of q).first ∷ 0 ∷ 0 ∷ [])
    (sealed q 0 (write_covered q))
    (sealed q 0 (read_covered q [] 0) ++ fill_pairs (shape_of q).values)

-- Answer bytes, for the values of the devices in address order (of HELLOALL, for the one number that comes back) and for a check byte
--   0 HELLOALL     57 00 n
--   1 WRITEALL     the same, [s+n]
--   2 WRITEDEVICE  the same, [s+1]
--   3 READALL      03 reg, then lo hi of address n-1 down to 0, check, PEC, [s+n]
--   4 READDEVICE   a*8+5 reg lo hi check PEC [s+1]
unfoldable pub answer_bytes : Question → (values : List ℕ) → (check : ℕ) → List ℕ
answer_bytes q values check =
    by_form q.kind
    ((shape_of q).first ∷ 0 ∷ values)
    (sealed q (shape_of q).acting (write_covered q))
    (sealed q (shape_of q).acting (read_covered q values check))
