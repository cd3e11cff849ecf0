-- Document 01's worked command and answers, computed from their definitions: READALL of 12h, one device.
use mathlib.Core.Path.{◌≡◌, refl}
use mathlib.Core.List.{[], ◌∷◌}
use Prim.Native.Nat.{ℕ}
use Rattle.remainder.specs.Register.{times, run}
use Rattle.pec.specs.Pec.{bit_step, byte_step, pec_of}
use Rattle.packing.specs.Words.{as_bytes}
use Rattle.questions.specs.Question.{read_all, asking}
use Rattle.questions.specs.Shape.{shape_of}
use Rattle.questions.specs.Bytes.{on_wire, sealed, fill_pairs, command_bytes, answer_bytes}
use Rattle.questions.specs.declared.question.Question.{Question}

abbrev pub read_all12 : (alive seed : ℕ) → Question
read_all12 alive seed = asking read_all 1 alive 0x12 0 0 seed

-- alive off
pub worked_command : command_bytes (read_all12 0 0) ≡ 0x03 ∷ 0x12 ∷ 0x00 ∷ 0xCB ∷ 0xC2 ∷ 0xD3 ∷ []
unfolding command_bytes sealed on_wire as_bytes fill_pairs shape_of pec_of run byte_step times bit_step
worked_command = refl

pub worked_answer : answer_bytes (read_all12 0 0) (0 ∷ []) 0 ≡ 0x03 ∷ 0x12 ∷ 0x00 ∷ 0x00 ∷ 0x00 ∷ 0xBC ∷ []
unfolding answer_bytes sealed on_wire as_bytes shape_of pec_of run byte_step times bit_step
worked_answer = refl

-- seed FFh: the alive byte is 00h, and the PEC is what it is without one
pub worked_alive : answer_bytes (read_all12 1 0xFF) (0 ∷ []) 0 ≡ 0x03 ∷ 0x12 ∷ 0x00 ∷ 0x00 ∷ 0x00 ∷ 0xBC ∷ 0x00 ∷ []
unfolding answer_bytes sealed on_wire as_bytes shape_of pec_of run byte_step times bit_step
worked_alive = refl
