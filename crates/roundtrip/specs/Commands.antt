-- What a device acts on, said without its test: "some command as the devices before it would have left it" (document 01, "The twin").
use Rattle.std.specs.Prelude.{◌≡◌, List, ℕ, length}
use Rattle.lines.specs.Line.{line_of}
use Rattle.questions.specs.Bytes.{on_wire}
use Rattle.questions.specs.declared.question.Question.{Question}
use Rattle.acceptance.specs.Answer.{Registers, Sendable}
use Rattle.hearing.specs.Hear.{carried}
use Rattle.underway.specs.OnTheWay.{on_the_way}
use Rattle.roundtrip.specs.Between.{For}

-- a good question for device k of n, with one value from each of the k devices before it (READALL) or with none, and the line of that
-- command; its alive byte may stand at any seed
pub record CommandFor (n k : ℕ) (line : List ℕ) : Type 0 where
  pub question : Question
  pub sent : Sendable question
  pub put : For question n k
  pub values : List ℕ
  pub number : length values ≡ carried question.kind k
  pub registers : Registers values
  pub is : line ≡ line_of (on_the_way question k 0 (on_wire values))
