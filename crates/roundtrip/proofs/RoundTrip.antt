-- The round trip: a good command through all n devices of a chain is the right answer for the registers as they stand, and each device's
-- registers are then as the command asks: a write's value in the register of each device that it is put to, all else as it was.
use mathlib.Core.Path.{◌≡◌, ap, ap₂, ◌∙◌}
use mathlib.Core.Bool.{true}
use mathlib.Core.List.{List}
use Prim.Native.Nat.{ℕ, zero, suc, ◌≤◌, ◌<◌}
use native.Mathlib.Nat.{le_refl}
use native.Mathlib.Omega.{arith}
use Rattle.questions.specs.Question.{good_question}
use Rattle.commands.specs.Command.{command_line}
use Rattle.questions.specs.declared.question.Question.{Question}
use Rattle.questions.proofs.Good.{good_kind}
use Rattle.acceptance.specs.Answer.{Registers, Sendable, AnswerTo}
use Rattle.passage.specs.Acting.{handed_on}
use Rattle.passage.specs.Pass.{change_of, changed}
use Rattle.twin.specs.Step.{registers_of, chain_with, hops_from, hops}
use Rattle.twin.proofs.Registers.{hop_own}
use Rattle.twin.proofs.Span.{next_of_chain}
use Rattle.roundtrip.specs.Between.{line_between, brought_back}
use Rattle.roundtrip.proofs.NotStepped.{untouched, settled}
use Rattle.roundtrip.proofs.NextLine.{change_for}
use Rattle.roundtrip.proofs.LineBetween.{next}
use Rattle.roundtrip.proofs.CommandFirst.{command_first}
use Rattle.roundtrip.proofs.AnswerLast.{answer_last, fitting}

module _ (q : Question) (good : good_question q ≡ true) (sends : Sendable q) (n : ℕ) (chain : 1 ≤ q.kind → q.n ≡ n) (least : 1 ≤ n) (most : n ≤ 32)
    (memory : List ℕ) (words : Registers memory) where
  -- THE LINE BETWEEN: after m devices, the command as m devices leave it.
  pub line_between_lem : (m : ℕ) → m ≤ n → (hops n m (chain_with memory (command_line q))).line ≡ line_between q m memory
  unfolding hops_from
  line_between_lem zero h = command_first q memory (good_kind q good)
  line_between_lem (suc m) h =
      let s = chain_with memory (command_line q) in
      ap (λ x. x.line) (next_of_chain n s m) ∙ ap₂ (handed_on n m) (line_between_lem m (omega arith)) (untouched n s m m (le_refl m))
      ∙ (next q sends n memory words good chain most m h).hands

  -- THE ROUND TRIP: the command through all n devices is the right answer for the registers as they stand.
  pub right_answer : AnswerTo q (brought_back q n memory) (hops n n (chain_with memory (command_line q))).line
  right_answer = record { fitting = fitting q good sends n chain least most memory words; written = line_between_lem n (le_refl n) ∙ answer_last q good sends n chain least most memory words }

  -- and each device's registers are as the command asks of it
  pub registers_after : (k : ℕ) → k < n → registers_of (hops n n (chain_with memory (command_line q))).memory k ≡ changed (registers_of memory k) (change_for q sends n memory words k)
  registers_after k h =
      let s = chain_with memory (command_line q) in
      settled n s n k h ∙ ap (λ x. registers_of x.memory k) (next_of_chain n s k) ∙ hop_own n k (hops n k s)
      ∙ ap₂ changed (untouched n s k k (le_refl k)) (ap (change_of n k) (line_between_lem k (omega arith)) ∙ (next q sends n memory words good chain most k h).changes)
