-- What the command writer's answer tells: which question is good, how long its command is, and what stands in the lent words.
use mathlib.Core.Path.{◌≡◌, refl, ap, ap₂, ◌∙◌}
use mathlib.Core.Bool.{Bool, true, false, cond}
use mathlib.Core.List.{List}
use Prim.Native.Nat.{ℕ, ◌≤◌, ◌<◌}
use native.Mathlib.Omega.{arith}
use lib.Dec.{leb}
use lib.ListN.{length}
use borrow.Author.Tests.{leb-true, le-leb, lt-leb}
use Rattle.lines.specs.Write.{at_front, left_by}
use Rattle.std.specs.Prelude.{Result, Ok, Err}
use Rattle.questions.specs.Question.{good_question}
use Rattle.questions.specs.declared.question.Question.{Question}
use Rattle.commands.specs.Command.{command_line, bad_question, room, issued_of, issued_number, CommandPut}
use Rattle.commands.specs.declared.CommandRefusal.{CommandRefusal}

module _ (q : Question) (lent : ℕ) where
  words : ℕ
  words = length (command_line q)

  -- the answer, by its two tests
  issued_by : (good fits : Bool) → good_question q ≡ good → leb words lent ≡ fits → issued_of q lent ≡ cond good (cond fits (Ok words) (Err room)) (Err bad_question)
  unfolding issued_of words
  issued_by good fits e f = ap₂ (λ (t u : Bool). cond t (cond u (Ok words) (Err room)) (Err bad_question)) e f

  pub issued_bad : good_question q ≡ false → issued_of q lent ≡ (Err bad_question)
  issued_bad bad = issued_by false (leb words lent) bad refl

  -- a good question, with and without room for its command
  pub issued_good : good_question q ≡ true → length (command_line q) ≤ lent → issued_of q lent ≡ Ok (length (command_line q))
  unfolding words
  issued_good good fits = issued_by true true good (le-leb words lent fits)

  pub issued_short : good_question q ≡ true → lent < length (command_line q) → issued_of q lent ≡ (Err room)
  unfolding words
  issued_short good short = issued_by true false good (lt-leb words lent short)

  pub record Issues (words : ℕ) : Type 0 where
    pub good : good_question q ≡ true
    pub number : words ≡ length (command_line q)
    pub fits : length (command_line q) ≤ lent

  -- and the other way round
  pub issued_words : (n : ℕ) → issued_of q lent ≡ Ok n → Issues n
  unfolding issued_of words
  issued_words n = by_test (good_question q) refl (leb words lent) refl
    where
      by_test : (t : Bool) → good_question q ≡ t → (u : Bool) → leb words lent ≡ u
          → cond t (cond u (Ok words) (Err room)) (Err bad_question) ≡ Ok n → Issues n
      by_test true good true fits e = record { good = good; number = cc; fits = leb-true words lent fits }
      by_test true good false fits e = let z : ◌≡◌ {A = ℕ} 0 1 = cc in absurd (omega arith)
      by_test false bad u fits e = let z : ◌≡◌ {A = ℕ} 0 1 = cc in absurd (omega arith)

-- what `write_command` leaves of a good question, where there is room
pub command_written : (q : Question) (out after : List ℕ) (r : Result ℕ CommandRefusal) → CommandPut q out after r → good_question q ≡ true
    → length (command_line q) ≤ length out → after ≡ at_front (command_line q) out
command_written q out after r done good room =
    done.leaves ∙ ap (λ (i : Result ℕ CommandRefusal). left_by (issued_number i) (at_front (command_line q) out) out) (issued_good q (length out) good room)
