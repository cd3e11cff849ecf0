-- The three answers of the call: the question turned away, no room, and the command laid at the front.
use mathlib.Core.Path.{◌≡◌, refl, sym, ap, ◌∙◌}
use mathlib.Core.Bool.{true, false}
use mathlib.Core.List.{List, ◌++◌}
use Prim.Native.Nat.{ℕ, ◌+◌, ◌*◌, ◌/◌, ◌≤◌, ◌<◌}
use native.Mathlib.Omega.{arith}
use lib.ListN.{length, take, length-append}
use Rattle.ground.proofs.Lists.{sets_front}
use Rattle.lines.specs.Line.{line_of}
use Rattle.lines.specs.Write.{at_front, left_by}
use Rattle.lines.proofs.Line.{length_line}
use Rattle.packing.specs.Words.{as_bytes}
use Rattle.packing.proofs.Back.{length_bytes}
use Rattle.questions.proofs.Good.{words_most}
use Rattle.questions.specs.Question.{good_question}
use Rattle.questions.specs.Shape.{shape_of}
use Rattle.questions.specs.Bytes.{fill_pairs, command_bytes}
use Rattle.questions.specs.declared.question.Question.{Question}
use Rattle.questions.specs.declared.question.Shape.{Shape}
use Rattle.questions.proofs.Bytes.{length_pairs}
use Rattle.commands.specs.Command.{command_line, issued_of, issued_number}
use Rattle.commands.specs.Command as command
use Rattle.heads.specs.Head.{head_of}
use Rattle.heads.specs.declared.Head.{Head}
use Rattle.std.specs.Prelude.{Result, Ok, Err}
use Rattle.commands.specs.declared.CommandRefusal.{CommandRefusal}
use Rattle.heads.proofs.Taken.{head_taken}
use Rattle.commands.proofs.Issuing.{issued_bad, issued_good, issued_short}
use Rattle.acceptance.proofs.Lengths.{command_words}
use Rattle.c_commands.specs.CommandBytes.{packed_issued, laid, CommandBytesDone}

module _ (q : Question) (out : List ℕ) where
  answered : (i : Result ℕ CommandRefusal) (after : List ℕ) (r : ℕ) → issued_of q (length out / 2) ≡ i → r ≡ packed_issued i
      → after ≡ left_by (issued_number i) (at_front (as_bytes (command_line q)) out) out → CommandBytesDone q out after r
  answered i after r e says leaves =
      record { says = says ∙ sym (ap packed_issued e); leaves = leaves ∙ sym (ap (λ (i : Result ℕ CommandRefusal). left_by (issued_number i) (at_front (as_bytes (command_line q)) out) out) e) }

  pub bad_question : good_question q ≡ false → CommandBytesDone q out out 1
  bad_question bad = answered (Err command.bad_question) out 1 (issued_bad q (length out / 2) bad) refl refl

  module _ (good : good_question q ≡ true) (s : Shape) (shape : s ≡ shape_of q) where
    words_are : length (command_line q) ≡ s.words
    words_are = command_words q good ∙ sym (ap (λ (s : Shape). s.words) shape)

    pub few_words : s.words ≤ 140
    few_words = omega (arith, ap (λ (s : Shape). s.words) shape, words_most q good)

    pub no_room : length out / 2 < s.words → CommandBytesDone q out out 2
    no_room less = answered (Err command.room) out 2 (issued_short q (length out / 2) good (omega (arith, words_are))) refl refl

    -- the command's bytes as they are laid out
    module _ (small : q.seed < 256) (h : Head) (head : h ≡ head_of q) where
      whole : take h.count h.bytes ++ fill_pairs s.values ≡ command_bytes q
      whole = head_taken q good small h s head shape

      pub room_for : s.words ≤ length out / 2 → 4 * length (take h.count h.bytes) + 8 * s.values + 4 ≤ length out
      room_for room =
          let front = take h.count h.bytes in
          omega (arith, words_are, length_line (command_bytes q), ap (λ (l : List ℕ). length l) whole, length-append front (fill_pairs s.values), length_pairs s.values)

      pub command_laid : (after : List ℕ) → s.words ≤ length out / 2 → after ≡ laid out 0 (line_of (take h.count h.bytes ++ fill_pairs s.values))
          → CommandBytesDone q out after (65536 * s.words)
      command_laid after room is =
          answered (Ok (length (command_line q))) after (65536 * s.words) (issued_good q (length out / 2) good (omega (arith, words_are)))
          (omega (arith, words_are))
          (is ∙ ap (λ (l : List ℕ). laid out 0 (line_of l)) whole
          ∙ sets_front (as_bytes (command_line q)) out (omega (arith, words_are, length_bytes (command_line q))))
