-- The C side's commands: what `command_bytes` answers tells whether the question was good and had room, two bytes a word.
use mathlib.Core.Path.{◌≡◌, refl, sym, ap, ap₂, ◌∙◌}
use mathlib.Core.Bool.{Bool, true, false, cond}
use mathlib.Core.List.{List}
use Prim.Native.Nat.{ℕ, ◌/◌, ◌≤◌}
use native.Mathlib.Omega.{arith}
use lib.Dec.{leb}
use lib.ListN.{length}
use borrow.Author.Tests.{leb-true, le-leb}
use Rattle.lines.specs.Write.{at_front}
use Rattle.lines.proofs.LeftBy.{left_written}
use Rattle.packing.specs.Words.{as_bytes}
use Rattle.questions.specs.Question.{good_question}
use Rattle.questions.specs.declared.question.Question as asked
use Rattle.commands.specs.Command.{command_line, issued_of, issued_number}
use Rattle.commands.specs.Command as command
use Rattle.std.specs.Prelude.{Ok, Err}
use Rattle.c_commands.specs.CommandBytes.{packed_issued, CommandBytesDone}
use Rattle.promises.specs.ByNumber.{packed_number}
use Rattle.promises.specs.CSideCommands.{CSideCommands}

module _ (q : asked.Question) (before after : List ℕ) (r : ℕ) (done : CommandBytesDone q before after r) where
  abbrev Fits : Type 0
  Fits = length (command_line q) ≤ length before / 2

  is_issued : good_question q ≡ true → Fits → issued_of q (length before / 2) ≡ Ok (length (command_line q))
  unfolding issued_of
  is_issued good room =
      ap₂ (λ (t u : Bool). cond t (cond u (Ok (length (command_line q))) (Err command.room)) (Err command.bad_question)) good
      (le-leb (length (command_line q)) (length before / 2) (omega arith))

  was_due : packed_number r ≡ 0 → (good_question q ≡ true) × Fits
  unfolding issued_of
  was_due accepted = by_tests (good_question q) refl (leb (length (command_line q)) (length before / 2)) refl done.says
    where
      by_tests : (t : Bool) → good_question q ≡ t → (u : Bool) → leb (length (command_line q)) (length before / 2) ≡ u
          → r ≡ packed_issued (cond t (cond u (Ok (length (command_line q))) (Err command.room)) (Err command.bad_question)) → (good_question q ≡ true) × Fits
      by_tests true good true fits e = (good, omega (arith, leb-true (length (command_line q)) (length before / 2) fits))
      by_tests true good false fits e = absurd (omega arith)
      by_tests false bad u fits e = absurd (omega arith)

  written : good_question q ≡ true → Fits → after ≡ at_front (as_bytes (command_line q)) before
  written good room = done.leaves ∙ left_written (at_front (as_bytes (command_line q)) before) before _ (ap issued_number (is_issued good room))

pub c_side_commands : CSideCommands
c_side_commands q before = record {
  only_then = λ after r done accepted.
      let due = was_due q before after r done accepted in
      let packed = done.says ∙ ap packed_issued (is_issued q before after r done due.0 due.1) in
      (command_line q, (due.0, refl, omega (arith, due.1)), omega (arith, packed), written q before after r done due.0 due.1);
  always_then = λ after r done sent line due.
      let fits : length (command_line q) ≤ length before / 2 = omega (arith, ap length due.1, due.2) in
      let packed = done.says ∙ ap packed_issued (is_issued q before after r done due.0 fits) in
      let size : length line ≡ length (command_line q) = ap length due.1 in (
        omega (arith, packed),
        omega (arith, packed, size),
        written q before after r done due.0 fits ∙ ap (λ (l : List ℕ). at_front (as_bytes l) before) (sym due.1),
      );
}
