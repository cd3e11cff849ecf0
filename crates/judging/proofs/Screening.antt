-- Rows 1 to 6 by themselves lead to what all rows say: a line that they turn away is turned away so, and of any other rows 7 to 11 are asked.
use mathlib.Core.Path.{◌≡◌, sym, ap, ◌∙◌}
use mathlib.Core.Bool.{true}
use mathlib.Core.List.{List}
use Prim.Native.Nat.{ℕ}
use lib.Dec.{eqb}
use lib.ListN.{length, get_or}
use borrow.Author.Tests.{eqb-true}
use Rattle.std.specs.Prelude.{Ok, Err}
use Rattle.lines.specs.Line.{bytes_of}
use Rattle.questions.specs.Question.{good_question}
use Rattle.questions.specs.Shape.{shape_of}
use Rattle.questions.specs.declared.question.Question as asked
use Rattle.contents.specs.Rows.{taken_of}
use Rattle.contents.specs.InOrder.{byte_rows, judge_bytes}
use Rattle.readings.specs.FirstFault.{Said, said}
use Rattle.readings.specs.declared.Refusal.{Refusal}
use Rattle.readings.specs.declared.Refusal.TheVariants.{Question, Length}
use Rattle.readings.proofs.FirstFault.{each_passed, asked_is_so, said_joined}
use Rattle.judging.specs.Judge.{screen_rows, rows_of, judge_of, screen_of}

module _ (q : asked.Question) (line : List ℕ) (room : ℕ) where
  screened_first : said (screen_of q line room) (judge_bytes q (bytes_of line)) ≡ judge_of q line room
  unfolding judge_of rows_of screen_of judge_bytes
  screened_first = sym (said_joined (screen_rows q line room) (byte_rows q (bytes_of line)) (taken_of q (bytes_of line)))

  pub turned_is_refused : (why : Refusal) → screen_of q line room ≡ Err why → Err why ≡ judge_of q line room
  turned_is_refused why e = ap (λ (s : Said). said s (judge_bytes q (bytes_of line))) (sym e) ∙ screened_first

  pub passed_is_judged : screen_of q line room ≡ Ok tt → judge_bytes q (bytes_of line) ≡ judge_of q line room
  passed_is_judged e = ap (λ (s : Said). said s (judge_bytes q (bytes_of line))) (sym e) ∙ screened_first

  module _ (passed : screen_of q line room ≡ Ok tt) where
    row : (k : ℕ) → get_or (screen_rows q line room) k (Ok tt) ≡ Ok tt
    unfolding screen_of
    row = each_passed (screen_rows q line room) passed

    pub passed_good : good_question q ≡ true
    unfolding screen_rows
    passed_good = asked_is_so Question (good_question q) (row 0)

    pub passed_words : length line ≡ (shape_of q).words
    unfolding screen_rows
    passed_words = eqb-true (length line) (shape_of q).words (asked_is_so Length (eqb (length line) (shape_of q).words) (row 2))
