-- A job rehearsed on the twin: each good question's command goes through all devices of the chain, from power-on on, and the file is given
-- with the answers that came back, in its own version and with its masks (document 02, M-100). A bad question is not sent, and has no words.
use Rattle.std.specs.Prelude.{◌≡◌, cond, List, [], ◌∷◌, ℕ, ◌+◌, ◌*◌, leb, length, drop, Result, Ok, Err}
use Rattle.lines.specs.Write.{at_front, left_by}
use Rattle.questions.specs.Question.{good_question}
use Rattle.questions.specs.Shape.{shape_of}
use Rattle.questions.specs.declared.question.Question.{Question}
use Rattle.commands.specs.Command.{command_line}
use Rattle.registers.specs.Memory.{power_on_memory}
use Rattle.twin.specs.Step.{Chain, chain_with, hops}
use Rattle.jobs.specs.declared.Header.{Header}
use Rattle.jobs.specs.Format.{Entry, head_size, field_size, asked, file_bytes}
use Rattle.jobs.specs.Check.{good_file, header_in, entries_in}
use Rattle.numbers.specs.Numbers.{answer_number}
use Rattle.jobs.specs.declared.FileRefusal.{FileRefusal}
use Rattle.jobs.specs.declared.FileRefusal.TheVariants.{File, Room}
use Rattle.jobs.specs.Refusals.{file_number}

-- the chain after a question, and the line that comes back
unfoldable pub sent : (n : ℕ) → (memory : List ℕ) → Question → Chain
sent n memory q = cond (good_question q) (hops n n (chain_with memory (command_line q))) (chain_with memory [])

-- an entry with these words for its answer
abbrev pub with_words : Entry → List ℕ → Entry
with_words e words = record {
  kind = e.kind;
  reg = e.reg;
  value = e.value;
  mask = e.mask;
  device = e.device;
  seed = e.seed;
  words = words;
}

-- the entries with their answers, each sent to the chain as the ones before have left it
unfoldable pub rehearsed : Header → (memory : List ℕ) → List Entry → List Entry
rehearsed h memory [] = []
rehearsed h memory (e ∷ es) = with_words e (sent h.n memory (asked h e)).line ∷ rehearsed h (sent h.n memory (asked h e)).memory es

-- the answered file, in the file's own version
unfoldable pub rehearsal_of : (file : List ℕ) → List ℕ
rehearsal_of file =
    file_bytes (header_in file) (rehearsed (header_in file) (power_on_memory (header_in file).n) (entries_in (header_in file).version (drop head_size file)))

-- the answer: FILE, also where the answered file would be too long; then ROOM
unfoldable pub rehearsed_of : (file out : List ℕ) → Result ℕ FileRefusal
rehearsed_of file out =
    cond (good_file file)
    (cond (leb (length (rehearsal_of file)) 65536)
    (cond (leb (length (rehearsal_of file)) (length out)) (Ok (length (rehearsal_of file))) (Err Room))
    (Err File))
    (Err File)

-- document 01's number of an answer
abbrev pub rehearsed_number : Result ℕ FileRefusal → ℕ
rehearsed_number = answer_number file_number

-- what `rehearse` says and leaves
pub record RehearsalDone (file before after : List ℕ) (r : Result ℕ FileRefusal) : Type 0 where
  pub says : r ≡ rehearsed_of file before
  pub leaves : after ≡ left_by (rehearsed_number (rehearsed_of file before)) (at_front (rehearsal_of file) before) before

-- how many words come back: as many as the command has
unfoldable pub answer_words : Question → ℕ
answer_words q = cond (good_question q) (shape_of q).words 0

-- how many bytes the entries take with their answers: each its fields, and two for each word, whatever the registers hold
unfoldable pub answered_size : Header → List Entry → ℕ
answered_size h [] = 0
answered_size h (e ∷ es) = field_size h.version + 2 * answer_words (asked h e) + answered_size h es
