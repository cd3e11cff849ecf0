-- One question sent: what comes back has as many words as the command, and a bad question is not sent.
use Rattle.std.specs.Prelude.{Result, Ok, ⊤}
use mathlib.Core.Path.{◌≡◌, refl, sym, ap, subst, ◌∙◌}
use mathlib.Core.Bool.{Bool, true, false, cond}
use mathlib.Core.List.{List, []}
use Prim.Native.Nat.{ℕ, ◌≤◌}
use native.Mathlib.Omega.{arith}
use lib.ListN.{length, take, drop}
use lib.Seq.{take_at}
use Rattle.ground.proofs.Test.{refuted}
use Rattle.questions.proofs.Good.{words_most}
use Rattle.questions.specs.Question.{good_question}
use Rattle.questions.specs.Shape.{shape_of}
use Rattle.questions.specs.declared.question.Question.{Question}
use Rattle.commands.specs.Command.{command_line, issued_of, CommandPut}
use Rattle.commands.specs.declared.CommandRefusal.{CommandRefusal}
use Rattle.commands.proofs.Issuing.{issued_good, issued_words, command_written}
use Rattle.acceptance.proofs.Lengths.{command_words}
use Rattle.registers.specs.Memory.{is_chain}
use Rattle.twin.specs.Step.{Chain, chain_with, hops, ChainDone}
use Rattle.twin.specs.declared.step.StepRefusal.{StepRefusal}
use Rattle.twin.proofs.Stepping.{leaves_line, leaves_memory, hops_length}
use Rattle.rehearsal.specs.Rehearsal.{answer_words, sent}
use Rattle.rehearsal.specs.Answering.{SentDone}

module _ (n : ℕ) (memory : List ℕ) (q : Question) where
  pub sent_good : good_question q ≡ true → sent n memory q ≡ hops n n (chain_with memory (command_line q))
  unfolding sent
  sent_good good = ap (λ (t : Bool). cond t (hops n n (chain_with memory (command_line q))) (chain_with memory [])) good

  pub sent_bad : good_question q ≡ false → sent n memory q ≡ chain_with memory []
  unfolding sent
  sent_bad bad = ap (λ (t : Bool). cond t (hops n n (chain_with memory (command_line q))) (chain_with memory [])) bad

module _ (q : Question) where
  pub words_good : good_question q ≡ true → answer_words q ≡ length (command_line q)
  unfolding answer_words
  words_good good = ap (λ (t : Bool). cond t (shape_of q).words 0) good ∙ sym (command_words q good)

  pub words_bad : good_question q ≡ false → answer_words q ≡ 0
  unfolding answer_words
  words_bad bad = ap (λ (t : Bool). cond t (shape_of q).words 0) bad

  -- no answer has more than 140 words
  pub few_words : answer_words q ≤ 140
  few_words = by_test (good_question q) refl
    where
      by_test : (t : Bool) → good_question q ≡ t → answer_words q ≤ 140
      by_test true good = omega (arith, words_good good, command_words q good, words_most q good)
      by_test false bad = omega (arith, words_bad bad)

  pub answer_length : (n : ℕ) (memory : List ℕ) → length (sent n memory q).line ≡ answer_words q
  answer_length n memory = by_test (good_question q) refl
    where
      by_test : (t : Bool) → good_question q ≡ t → length (sent n memory q).line ≡ answer_words q
      by_test true good =
          ap (λ (s : Chain). length s.line) (sent_good n memory q good) ∙ hops_length n 0 n (chain_with memory (command_line q)) ∙ sym (words_good good)
      by_test false bad = ap (λ (s : Chain). length s.line) (sent_bad n memory q bad) ∙ sym (words_bad bad)

-- ---- the call

module _ (n : ℕ) (q : Question) (memory : List ℕ) (blank : List ℕ) (size : length blank ≡ 140) where
  pub not_sent : (r : Result ℕ CommandRefusal) (line : List ℕ) → r ≡ issued_of q (length blank) → ((words : ℕ) → r ≡ Ok words → ⊥) → SentDone n q memory memory line 0
  not_sent r line says other =
      let bad : good_question q ≡ false = refuted (good_question q) (λ good.
      other _ (says ∙ issued_good q (length blank) good (omega (arith, command_words q good, words_most q good)))) in
      record {
        words = sym (words_bad q bad);
        comes = sym (ap (λ (s : Chain). s.line) (sent_bad n memory q bad));
        remembers = sym (ap (λ (s : Chain). s.memory) (sent_bad n memory q bad));
      }

  -- as many words as the command has
  pub within : (words : ℕ) → issued_of q (length blank) ≡ Ok words → words ≤ 140
  within words says = let issues = issued_words q (length blank) words says in omega (arith, issues.number, issues.fits)

  pub was_sent : (r : Result ℕ CommandRefusal) (words : ℕ) (command line line' memory' : List ℕ) (stepped : Result ⊤ StepRefusal) → CommandPut q blank command r
      → r ≡ Ok words → is_chain n (length memory) ≡ true → length line ≡ 140
      → ChainDone n memory memory' (take words command) line line' stepped → SentDone n q memory memory' line' words
  was_sent r words command line line' memory' stepped put is chain room done =
      let issues = issued_words q (length blank) words (sym put.says ∙ is) in
      let sends : take words command ≡ command_line q =
      ap (take words) (command_written q blank command r put issues.good issues.fits)
      ∙ take_at (command_line q) (drop (length (command_line q)) blank) words (sym issues.number) in
      let start = chain_with memory (command_line q) in
      let end = hops n n start in
      let done' = subst (λ (l : List ℕ). ChainDone n memory memory' l line line' stepped) sends done in
      let enough : length (command_line q) ≤ length line = omega (arith, issues.fits) in
      record {
        words = issues.number ∙ sym (words_good q issues.good);
        comes =
            ap (take words) (leaves_line start end line line' memory' stepped _ done' chain enough)
            ∙ take_at end.line (drop (length end.line) line) words (hops_length n 0 n start ∙ sym issues.number)
            ∙ sym (ap (λ (s : Chain). s.line) (sent_good n memory q issues.good));
        remembers =
            leaves_memory start end line line' memory' stepped _ done' chain enough ∙ sym (ap (λ (s : Chain). s.memory) (sent_good n memory q issues.good));
      }
