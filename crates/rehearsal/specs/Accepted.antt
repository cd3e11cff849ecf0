-- What a rehearsal shows: the answers that came back are right answers of a chain whose registers change by the writes alone.
use Rattle.std.specs.Prelude.{◌≡◌, true, false, List, [], ◌∷◌, ℕ}
use Rattle.questions.specs.Question.{good_question}
use Rattle.questions.specs.declared.question.Question.{Question}
use Rattle.readings.specs.Reading.{number_of, values_taken}
use Rattle.judging.specs.Judge.{judge_of}
use Rattle.reader.specs.Read.{values_on}
use Rattle.acceptance.specs.Answer.{reading_of, handed_out}
use Rattle.roundtrip.specs.Between.{brought_back, ChangedBy}
use Rattle.jobs.specs.declared.Header.{Header}
use Rattle.jobs.specs.Format.{Entry, asked}

-- the reader, with room for the values of 32 devices, accepts the line, and hands out what the registers of n devices held: for a read each
-- covered device's register, in address order
pub record AcceptedFrom (q : Question) (n : ℕ) (memory line : List ℕ) : Type 0 where
  pub accepted : number_of (judge_of q line 32) ≡ 0
  pub reading : judge_of q line 32 ≡ reading_of q (brought_back q n memory)
  pub values : values_on line (values_taken (judge_of q line 32)) ≡ handed_out q (brought_back q n memory)

-- entries whose answers came from a chain with these registers: every good question's is accepted, a bad question's has no words
pub data FromChain (h : Header) : (memory : List ℕ) → List Entry → Type 0 where
  none : (memory : List ℕ) → FromChain h memory []
  good : (memory after : List ℕ) (e : Entry) (es : List Entry) → good_question (asked h e) ≡ true → AcceptedFrom (asked h e) h.n memory e.words
      → ChangedBy (asked h e) h.n memory after → FromChain h after es → FromChain h memory (e ∷ es)
  bad : (memory : List ℕ) (e : Entry) (es : List Entry) → good_question (asked h e) ≡ false → e.words ≡ [] → FromChain h memory es
      → FromChain h memory (e ∷ es)
