-- A command has as many words as its answer.
use mathlib.Core.Path.{◌≡◌, sym, ap, ◌∙◌}
use mathlib.Core.Bool.{true}
use mathlib.Core.Logic.{⊎_elim}
use mathlib.Core.List.{List, [], ◌∷◌}
use Prim.Native.Nat.{ℕ, ◌+◌, ◌*◌, ◌≤◌, ◌<◌}
use native.Mathlib.Nat.{eq-zero-or-pos}
use native.Mathlib.Omega.{arith}
use lib.ListN.{length, length-append}
use Rattle.ground.proofs.Test.{below_or_not}
use Rattle.lines.proofs.Line.{length_line}
use Rattle.questions.specs.Question.{good_question}
use Rattle.questions.specs.Shape.{shape_of}
use Rattle.questions.specs.Bytes.{sealed, fill_pairs, write_covered, command_bytes}
use Rattle.commands.specs.Command.{command_line}
use Rattle.questions.specs.declared.question.Question.{Question}
use Rattle.questions.proofs.Good.{good_alive, hello_shape, write_shape, read_shape}
use Rattle.questions.proofs.Bytes.{length_pairs, hello_command, write_command, read_command}
use Rattle.acceptance.proofs.Sealed.{length_sealed}

module _ (q : Question) (good : good_question q ≡ true) where
  bytes_hello : q.kind ≡ 0 → length (command_line q) ≡ (shape_of q).words
  bytes_hello e =
      length_line (command_bytes q) ∙ ap (λ (l : List ℕ). 2 * length l + 2) (hello_command q e) ∙ sym (ap (λ s. s.words) (hello_shape q e))

  bytes_write : 1 ≤ q.kind → q.kind ≤ 2 → length (command_line q) ≡ (shape_of q).words
  bytes_write lo hi =
      length_line (command_bytes q) ∙ ap (λ (l : List ℕ). 2 * length l + 2) (write_command q lo hi)
      ∙ omega (arith, length_sealed q 0 (good_alive q good) (write_covered q), (write_shape q lo hi).words)

  bytes_read : 3 ≤ q.kind → length (command_line q) ≡ (shape_of q).words
  bytes_read lo =
      let front = sealed q 0 ((shape_of q).first ∷ q.reg ∷ 0 ∷ []) in
      length_line (command_bytes q) ∙ ap (λ (l : List ℕ). 2 * length l + 2) (read_command q lo)
      ∙ omega (arith, length-append front (fill_pairs (shape_of q).values), length_sealed q 0 (good_alive q good) ((shape_of q).first ∷ q.reg ∷ 0 ∷ []), length_pairs (shape_of q).values, (read_shape q lo).words)

  -- the command
  pub command_words : length (command_line q) ≡ (shape_of q).words
  command_words =
      ⊎_elim
      (λ (low : q.kind < 3). ⊎_elim bytes_hello (λ lo. bytes_write lo (omega arith)) (eq-zero-or-pos q.kind))
      bytes_read (below_or_not q.kind 3)
