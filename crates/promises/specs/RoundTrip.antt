-- THE ROUND TRIP. For every good question and every chain of 1 to 32 devices, whatever their registers hold: the command that `write_command`
-- writes, through all devices by `run_chain`, is the right answer for the registers as they stand; `read` accepts it and hands out each
-- device's register in address order; after WRITEALL every device holds the value (register 0x00 excepted), after WRITEDEVICE exactly that
-- one; reads and HELLOALL change no register. Claimed of every answer that meets the three contracts.
use Rattle.std.specs.Prelude.{Result, Ok, ⊤, ◌≡◌, true, List, ℕ, ◌*◌, ◌≤◌, length, take}
use Rattle.lines.specs.Write.{at_front}
use Rattle.questions.specs.Question.{good_question}
use Rattle.questions.specs.Shape.{shape_of}
use Rattle.questions.specs.declared.question.Question.{Question}
use Rattle.commands.specs.Command.{command_line, CommandPut}
use Rattle.commands.specs.declared.CommandRefusal.{CommandRefusal}
use Rattle.readings.specs.Reading.{number_of}
use Rattle.readings.specs.declared.Refusal.{Refusal}
use Rattle.readings.specs.declared.Taken.{Taken}
use Rattle.reader.specs.Read.{ReadDone}
use Rattle.acceptance.specs.Answer.{AnswerTo, Registers, Sendable, reading_of, handed_out}
use Rattle.twin.specs.Step.{ChainDone}
use Rattle.twin.specs.declared.step.StepRefusal.{StepRefusal}
use Rattle.roundtrip.specs.Between.{brought_back, ChangedBy}

-- a good question put to a chain of n devices: HELLOALL, or one that names their number; and 256 registers for each device
pub record PutTo (q : Question) (n : ℕ) (memory : List ℕ) : Type 0 where
  pub good : good_question q ≡ true
  pub sends : Sendable q
  pub named : 1 ≤ q.kind → q.n ≡ n
  pub least : 1 ≤ n
  pub most : n ≤ 32
  pub words : length memory ≡ 256 * n
  pub registers : Registers memory

-- the chain hands the line on; it is the right answer for the registers as they stand, as long as the command and at the front of the
-- output; and afterwards each register holds the written value where the write reaches it, and what it held where not
pub record Trip (q : Question) (n : ℕ) (memory memory_left out out_after : List ℕ) (r : Result ⊤ StepRefusal) : Type 0 where
  pub handed : r ≡ Ok tt
  pub answer : List ℕ
  pub words : length answer ≡ length (command_line q)
  pub right : AnswerTo q (brought_back q n memory) answer
  pub stands : out_after ≡ at_front answer out
  pub holds : ChangedBy q n memory memory_left

pub record RoundTrip : Type 0 where
  -- through the chain
  pub through : (q : Question) (n : ℕ) (memory : List ℕ) → PutTo q n memory
      → (out out_after memory_left : List ℕ) (r : Result ⊤ StepRefusal) → ChainDone n memory memory_left (command_line q) out out_after r
      → length (command_line q) ≤ length out
      → Trip q n memory memory_left out out_after r
  -- and the whole way, call by call: what `write_command` wrote, as many words of it as the command has, through `run_chain`; and what stands
  -- in as many words of its output, read by `read`: the reader accepts what came back and hands out what the registers held; and what they hold
  -- then
  pub whole : (q : Question) (n : ℕ) (memory : List ℕ) → PutTo q n memory
      → (written line out out_after memory_left before after : List ℕ) (issued : Result ℕ CommandRefusal) (r : Result ⊤ StepRefusal) (reading : Result Taken Refusal)
      → CommandPut q written line issued → length (command_line q) ≤ length written
      → ChainDone n memory memory_left (take (length (command_line q)) line) out out_after r → length (command_line q) ≤ length out
      → ReadDone q (take (length (command_line q)) out_after) before after reading → (shape_of q).values ≤ length before
      → (number_of reading ≡ 0) × (reading ≡ reading_of q (brought_back q n memory)) × (after ≡ at_front (handed_out q (brought_back q n memory)) before)
      × ChangedBy q n memory memory_left
