-- A line that rows 1 to 6 let pass: its bytes fit the array that they are read into, and what they carry is what the line carries.
use mathlib.Core.Path.{◌≡◌, ap}
use mathlib.Core.List.{List}
use Prim.Native.Nat.{ℕ, ◌≤◌}
use native.Mathlib.Omega.{arith}
use lib.ListN.{length}
use Rattle.std.specs.Prelude.{Ok}
use Rattle.lines.specs.Line.{bytes_of}
use Rattle.lines.proofs.Line.{byte_count, length_bytes}
use Rattle.questions.specs.declared.question.Question.{Question}
use Rattle.questions.proofs.Good.{words_most, words_least}
use Rattle.readings.specs.Reading.{values_taken}
use Rattle.contents.specs.InOrder.{judge_bytes}
use Rattle.judging.specs.Judge.{judge_of, screen_of}
use Rattle.judging.proofs.Accepted.{values_fit, values_carried}
use Rattle.judging.proofs.Screening.{passed_good, passed_words, passed_is_judged}
use Rattle.reader.specs.Read.{values_on, values_in, Carried}

module _ (q : Question) (line : List ℕ) (room : ℕ) (passed : screen_of q line room ≡ Ok tt) where
  pub some_words : 8 ≤ length line
  some_words = omega (arith, passed_words q line room passed, words_least q (passed_good q line room passed))

  pub few_bytes : byte_count line ≤ 72
  few_bytes = omega (arith, passed_words q line room passed, words_most q (passed_good q line room passed))

  same_count : values_taken (judge_bytes q (bytes_of line)) ≡ values_taken (judge_of q line room)
  same_count = ap values_taken (passed_is_judged q line room passed)

  pub carried : Carried (bytes_of line) (values_taken (judge_bytes q (bytes_of line))) room
  carried =
      (omega (arith, same_count, values_carried q line room, length_bytes line, some_words), omega (arith, same_count, (values_fit q line room).1))

  pub same_values : values_in (bytes_of line) (values_taken (judge_bytes q (bytes_of line))) ≡ values_on line (values_taken (judge_of q line room))
  same_values = ap (values_in (bytes_of line)) same_count
