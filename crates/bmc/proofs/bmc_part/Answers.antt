-- `bmc_part` meets its contract: it is `part_bytes` of the seven numbers' question.
use mathlib.Core.Path.{ap, ◌∙◌}
use Rattle.questions.specs.declared.question.Question.{Question}
use Rattle.c_parts.specs.PartBytes.{part_in}
use Rattle.bmc.proofs.bmc_part.Goals as goal

pub returns : goal.returns
returns c =
    let a = c.args in
    c.part_bytes.ensures ∙ ap (λ (q : Question). part_in q a.named a.line.now) c.ask-put.ensures
