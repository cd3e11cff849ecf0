-- One entry of a job file heard (document 01, "Job file and certificate"; document 02, M-100): the reader is called on its question and words, and
-- its mask goes with them.
use Rattle.std.specs.Prelude.{false, cond, List, ℕ}
use Rattle.questions.specs.declared.question.Question.{Question}
use Rattle.readings.specs.Reading.{number_of, values_taken}
use Rattle.judging.specs.Judge.{judge_of}
use Rattle.reader.specs.Read.{values_on}
use Rattle.jobs.specs.declared.Header.{Header}
use Rattle.jobs.specs.Format.{Entry, asked}
use Rattle.jobs.specs.Check.{size_in, entry_in, good_entry}
use Rattle.letters.specs.declared.Standing.{Standing}
use Rattle.letters.specs.Letters.{Heard, hear_of, nothing_written}
use Rattle.letters.specs.Meaning.{is_values}
use Rattle.listening.specs.declared.Listened.{Listened}

-- what the reader says of a line and hands out, with room for the values of 32 devices
abbrev pub heard_as : Question → (mask : ℕ) → (line : List ℕ) → Heard
heard_as q mask line = record { question = q; mask = mask; reading = judge_of q line 32; values = values_on line (values_taken (judge_of q line 32)) }

-- an entry heard: the reader called on its question and words
abbrev pub heard_of : Header → Entry → Heard
heard_of h e = heard_as (asked h e) e.mask e.words

-- the number of an entry: 0 for accepted
abbrev pub number_for : Heard → ℕ
number_for e = number_of e.reading

-- the entry at the front of some bytes, heard
abbrev pub heard_here : Header → (front : List ℕ) → Heard
heard_here h front = heard_of h (entry_in h.version front)

-- what an entry of this many bytes comes to: its number, the letters after it, its question, and whether values were accepted
abbrev pub listened_to : Standing → Heard → (size : ℕ) → Listened
listened_to s e size = record {
  number = number_for e;
  standing = hear_of s e.question e.mask e.reading e.values;
  question = e.question;
  accepted = is_values e.reading;
  size = size;
}

-- where there is no entry: 14 FILE, the letters as they stood, nothing asked
abbrev pub nothing_heard : Standing → Listened
nothing_heard s = record { number = 14; standing = s; question = nothing_written; accepted = false; size = 0 }

-- what `listen` says of the bytes from an entry on
unfoldable pub listen_of : Header → (front : List ℕ) → Standing → Listened
listen_of h front s = cond (good_entry h front) (listened_to s (heard_here h front) (size_in h.version front)) (nothing_heard s)
