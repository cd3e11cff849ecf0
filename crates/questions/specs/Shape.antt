-- What the kind of a question settles of its command and its answer (document 01, "Commands and answers").
use Rattle.std.specs.Prelude.{ℕ, ◌+◌, ◌*◌}
use Rattle.questions.specs.Question.{by_kind}
use Rattle.questions.specs.declared.question.Question.{Question}
use Rattle.questions.specs.declared.question.Shape.{Shape}

-- The command byte; how many devices add one to the alive byte (HELLOALL has none); how many values come back; how many bytes of the answer
-- stand before the PEC (of HELLOALL, which has none, all of them); the length of command and answer in words.
abbrev pub shaped : (first acting values covered words : ℕ) → Shape
shaped first acting values covered words =
    record { first = first; acting = acting; values = values; covered = covered; words = words }

-- 8 words for HELLOALL, 12 or 14 for writes, 14 or 16 for READDEVICE, at most 140 for READALL
abbrev pub shape_at : (kind : ℕ) → Question → Shape
shape_at kind q =
    by_kind kind
    (shaped 0x57 0 0 3 8)
    (shaped 0x02 q.n 0 4 (12 + 2 * q.alive))
    (shaped (q.device * 8 + 4) 1 0 4 (12 + 2 * q.alive))
    (shaped 0x03 q.n q.n (2 * q.n + 3) (10 + 4 * q.n + 2 * q.alive))
    (shaped (q.device * 8 + 5) 1 1 5 (14 + 2 * q.alive))

unfoldable pub shape_of : Question → Shape
shape_of q = shape_at q.kind q
