-- The devices that a question covers, which stand together: the first of them, and the one behind the last.
use Rattle.std.specs.Prelude.{ℕ, ◌+◌}
use Rattle.questions.specs.Question.{by_kind}
use Rattle.questions.specs.declared.question.Question.{Question}
use Rattle.std.specs.declared.ops.Range.{Range}

abbrev span : (first end : ℕ) → Range ℕ
span first end = record { start = first; end = end }

-- HELLOALL covers none
abbrev pub span_at : (kind : ℕ) → Question → Range ℕ
span_at kind q = by_kind kind (span 0 0) (span 0 q.n) (span q.device (q.device + 1)) (span 0 q.n) (span q.device (q.device + 1))

unfoldable pub span_of : Question → Range ℕ
span_of q = span_at q.kind q
