-- `answer_words` meets its contract: a bad question is not sent.
use mathlib.Core.Path.{sym, ap, ◌∙◌}
use Rattle.questions.specs.declared.question.Shape.{Shape}
use Rattle.rehearsal.specs.Rehearsal.{answer_words}
use Rattle.rehearsal.proofs.count.answer_words.Goals as goal

pub returns-then-not-is_good : goal.returns-then-not-is_good
unfolding answer_words
returns-then-not-is_good c = simp (sym c.is_good.ensures ∙ c.if-not-is_good.true)

pub returns : goal.returns
unfolding answer_words
returns c = simp (sym c.is_good.ensures ∙ c.if-not-is_good.false) (ap (λ (s : Shape). s.words) c.shape_of-shape.ensures)
