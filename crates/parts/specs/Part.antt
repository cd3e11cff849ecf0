-- The second call: which part of a line carries a device's register.
use Rattle.std.specs.Prelude.{Bool, cond, Option, Some, None, ◌&&◌, List, [], ℕ, suc, ◌+◌, ◌*◌, ltb, eqb, length, take, drop}
use Rattle.questions.specs.Question.{read_all, covers}
use Rattle.questions.specs.Shape.{shape_of}
use Rattle.questions.specs.declared.question.Question.{Question}
use Rattle.readings.specs.Reading.{values_taken}
use Rattle.judging.specs.Judge.{judge_of}
use Rattle.reader.specs.Read.{values_on}

-- how many devices with values in the answer stand below this one
unfoldable pub order_of : Question → ℕ → ℕ
order_of q a = cond (eqb q.kind read_all) a 0

-- how many values the second call finds: it needs no room
abbrev pub values_found : Question → List ℕ → ℕ
values_found q line = values_taken (judge_of q line (shape_of q).values)

-- there is such a part: the line is accepted with values, and the question is put to the device
abbrev pub has_part : Question → List ℕ → ℕ → Bool
has_part q line a = ltb 0 (values_found q line) && covers q a

-- how many values stand before the device's own on the line: those of the devices above it
abbrev pub above : Question → List ℕ → ℕ → ℕ
above q line a = length (drop (suc (order_of q a)) (values_on line (values_found q line)))

-- the place of the first of the four characters that carry a device's register, behind the preamble, two bytes and the values that stand
-- before its own; 0 for a line turned away, for another kind, and for a device that the question is not put to
unfoldable pub start_of : Question → List ℕ → ℕ → ℕ
start_of q line a = cond (has_part q line a) (5 + 4 * above q line a) 0

-- the second call: the four characters that carry a device's register; nothing where there is no such part
unfoldable pub part_of : Question → List ℕ → ℕ → List ℕ
part_of q line a = cond (has_part q line a) (take 4 (drop (start_of q line a) line)) []

-- the place alone, where there is such a part
abbrev pub place_found : Question → List ℕ → ℕ → Option ℕ
place_found q line a = cond (has_part q line a) (Some (start_of q line a)) None
