-- `bmc_explain` meets its contract: it is `explain_packed` of the seven numbers' question.
use mathlib.Core.Path.{ap, ◌∙◌}
use Rattle.questions.specs.declared.question.Question.{Question}
use Rattle.c_reasons.specs.Explain.{packed_on}
use Rattle.bmc.proofs.bmc_explain.Goals as goal

pub returns : goal.returns
returns c =
    let a = c.args in
    c.explain_packed.ensures ∙ ap (λ (q : Question). packed_on q a.line.now) c.ask-answered.ensures
