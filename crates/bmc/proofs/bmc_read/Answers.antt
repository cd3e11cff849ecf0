-- `bmc_read` meets its contract: it is `read_bytes` of the seven numbers' question.
use mathlib.Core.Path.{subst}
use Rattle.questions.specs.declared.question.Question.{Question}
use Rattle.c_reader.specs.ReadBytes.{ReadBytesDone}
use Rattle.bmc.proofs.bmc_read.Goals as goal

pub returns : goal.returns
returns c =
    let a = c.args in
    subst (λ (q : Question). ReadBytesDone q a.line.now a.out.now c.read_bytes.new.out c.read_bytes.result) c.ask-q.ensures c.read_bytes.ensures
