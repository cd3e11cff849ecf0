-- The whole call: what the command writer says and leaves, turned away and not.
use mathlib.Core.Path.{◌≡◌, refl, sym, ap, ◌∙◌}
use mathlib.Core.Bool.{Bool, true, false, cond}
use mathlib.Core.List.{List}
use Prim.Native.Nat.{ℕ}
use lib.Dec.{leb}
use lib.ListN.{length}
use borrow.Author.Tests.{leb-true, leb-false}
use Rattle.lines.specs.Write.{at_front, left_by}
use Rattle.writing.specs.PutLine.{no_room, put_of, put_number, out_of, LinePut}
use Rattle.std.specs.Prelude.{Result, Ok, Err, IsErrAnd}
use Rattle.writing.specs.declared.NoRoom.{NoRoom}
use Rattle.questions.specs.Question.{good_question}
use Rattle.questions.specs.Bytes.{command_bytes}
use Rattle.commands.specs.Command.{command_line, bad_question, room, issued_of, issued_number, CommandPut, issued_as}
use Rattle.commands.specs.declared.CommandRefusal.{CommandRefusal}
use Rattle.questions.specs.declared.question.Question.{Question}
use Rattle.commands.proofs.Issuing.{issued_bad, issued_good, issued_short}

pub command_refused : (q : Question) (out : List ℕ) → good_question q ≡ false → CommandPut q out out (Err bad_question)
command_refused q out bad =
    let is = issued_bad q (length out) bad in
    record { says = sym is; leaves = sym (ap (λ (i : Result ℕ CommandRefusal). left_by (issued_number i) (at_front (command_line q) out) out) is) }

-- an error that is ROOM
pub said_room : (r : Result ℕ CommandRefusal) → IsErrAnd r (λ why. why ≡ room) → r ≡ Err room
said_room (Ok n) is = elim is [ ]
said_room (Err why) is = ap Err is

-- putting the line and issuing the command have the same number
same_number : (p : Result ℕ NoRoom) → put_number p ≡ issued_number (issued_as p)
same_number (Ok n) = refl
same_number (Err why) = refl

module _ (q : Question) (out : List ℕ) (good : good_question q ≡ true) where
  same_answer : issued_as (put_of (command_bytes q) out) ≡ issued_of q (length out)
  unfolding put_of
  same_answer = by_room (leb (length (command_line q)) (length out)) refl
    where
      by_room : (t : Bool) → leb (length (command_line q)) (length out) ≡ t
          → issued_as (cond t (Ok (length (command_line q))) (Err no_room)) ≡ issued_of q (length out)
      by_room true fits = sym (issued_good q (length out) good (leb-true (length (command_line q)) (length out) fits))
      by_room false less = sym (issued_short q (length out) good (leb-false (length (command_line q)) (length out) less))

  pub command_put : (after : List ℕ) (p : Result ℕ NoRoom) (r : Result ℕ CommandRefusal) → LinePut (command_bytes q) out after p → r ≡ issued_as p → CommandPut q out after r
  unfolding out_of
  command_put after p r done s =
      record {
        says = s ∙ ap issued_as done.says ∙ same_answer;
        leaves =
            done.leaves
            ∙ ap (λ (number : ℕ). left_by number (at_front (command_line q) out) out)
            (same_number (put_of (command_bytes q) out) ∙ ap issued_number same_answer);
      }
