-- The reader's call: what it says, and what it leaves in the output.
use Rattle.std.specs.Prelude.{◌≡◌, List, reverse, ℕ, ◌+◌, ◌*◌, ◌≤◌, length, take, drop, Result}
use Rattle.packing.specs.Words.{words_of}
use Rattle.lines.specs.Line.{bytes_of}
use Rattle.lines.specs.Write.{at_front}
use Rattle.questions.specs.declared.question.Question.{Question}
use Rattle.readings.specs.Reading.{values_taken}
use Rattle.contents.specs.InOrder.{judge_bytes}
use Rattle.judging.specs.Judge.{judge_of}
use Rattle.readings.specs.declared.Refusal.{Refusal}
use Rattle.readings.specs.declared.Taken.{Taken}

-- the m values that an answer's bytes carry behind the first two, the highest address first there: in address order, lowest first
abbrev pub values_in : List ℕ → (m : ℕ) → List ℕ
values_in bytes m = reverse (take m (words_of (drop 2 bytes)))

-- and those that its line carries
abbrev pub values_on : List ℕ → (m : ℕ) → List ℕ
values_on line m = values_in (bytes_of line) m

-- the bytes carry so many values behind the first two, and there is room for them
abbrev pub Carried : List ℕ → (m room : ℕ) → Type 0
Carried bytes m room = (2 * m + 2 ≤ length bytes) × (m ≤ room)

-- what `read` says and leaves: the values at the front of the output and the rest as it was; turned away, or a kind without values, all as it was
pub record ReadDone (q : Question) (line before after : List ℕ) (r : Result Taken Refusal) : Type 0 where
  pub says : r ≡ judge_of q line (length before)
  pub leaves : after ≡ at_front (values_on line (values_taken (judge_of q line (length before)))) before

-- what `read_off` says of an answer's bytes and leaves
pub record ReadOff (q : Question) (bytes before after : List ℕ) (r : Result Taken Refusal) : Type 0 where
  pub says : r ≡ judge_bytes q bytes
  pub leaves : after ≡ at_front (values_in bytes (values_taken (judge_bytes q bytes))) before
