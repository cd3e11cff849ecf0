-- `bmc_command` meets its contract: it is `command_bytes` of the seven numbers' question.
use mathlib.Core.Path.{subst}
use Rattle.questions.specs.declared.question.Question.{Question}
use Rattle.c_commands.specs.CommandBytes.{CommandBytesDone}
use Rattle.bmc.proofs.bmc_command.Goals as goal

pub returns : goal.returns
returns c =
    let a = c.args in
    subst (λ (q : Question). CommandBytesDone q a.out.now c.command_bytes.new.out c.command_bytes.result) c.ask-command.ensures c.command_bytes.ensures
