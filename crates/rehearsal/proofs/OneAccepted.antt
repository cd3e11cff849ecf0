-- One question sent through a chain: the reader accepts its answer, with what the registers held; the chain is a chain still; and the entry with
-- its answer fits and keeps the rules of a job file.
use mathlib.Core.Path.{◌≡◌, refl, sym, ap, subst, ◌∙◌}
use mathlib.Core.Bool.{Bool, true, false}
use mathlib.Core.List.{List, ◌∷◌}
use Prim.Native.Nat.{ℕ, ◌*◌, ◌≤◌, ◌<◌}
use native.Mathlib.Omega.{arith}
use lib.ListN.{length, get_or}
use Rattle.lines.proofs.Line.{line_wide}
use Rattle.questions.specs.Question.{good_question}
use Rattle.questions.specs.Bytes.{answer_bytes}
use Rattle.questions.specs.declared.question.Question.{Question}
use Rattle.questions.proofs.Good.{good_values}
use Rattle.readings.specs.Reading.{number_of}
use Rattle.commands.specs.Command.{command_line}
use Rattle.acceptance.specs.Answer.{Registers, Sendable, AnswerTo}
use Rattle.acceptance.proofs.AnswerIsAccepted.{answer_is_accepted, accepted_reading}
use Rattle.twin.specs.Step.{Chain, chain_with, hops}
use Rattle.twin.proofs.Stepping.{hops_memory}
use Rattle.roundtrip.specs.Between.{held, brought_back}
use Rattle.roundtrip.proofs.RoundTrip.{right_answer}
use Rattle.roundtrip.proofs.RegistersAfter.{held_after, still_registers}
use Rattle.jobs.specs.declared.Header.{Header}
use Rattle.jobs.specs.Format.{Entry, asked}
use Rattle.jobs.specs.Encoded.{Fits, Keeps}
use Rattle.jobs.proofs.OneEntry.{fields, fits_by}
use Rattle.rehearsal.specs.Rehearsal.{sent, with_words}
use Rattle.rehearsal.specs.Accepted.{AcceptedFrom, FromChain}
use Rattle.rehearsal.specs.Accepted.FromChain.{good as answered-good, bad as not_sent}
use Rattle.rehearsal.proofs.Sending.{sent_good, sent_bad, few_words, answer_length}

-- the memory of a chain: 1 to 32 devices with 256 registers each, of 16 bits
pub record ChainMemory (n : ℕ) (memory : List ℕ) : Type 0 where
  pub least : 1 ≤ n
  pub most : n ≤ 32
  pub size : length memory ≡ 256 * n
  pub words : Registers memory

module _ (h : Header) (e : Entry) (fits : Fits h.version e) (memory : List ℕ) (c : ChainMemory h.n memory) where
  abbrev q : Question
  q = asked h e

  abbrev n : ℕ
  n = h.n

  sends : Sendable q
  sends = record { reg = (fields h.version e fits).reg; value = (fields h.version e fits).value }

  module _ (good : good_question q ≡ true) where
    abbrev end : Chain
    end = hops n n (chain_with memory (command_line q))

    answer : AnswerTo q (brought_back q n memory) end.line
    answer = right_answer q good sends n (λ some. refl) c.least c.most memory c.words

    is_accepted : AcceptedFrom q n memory (sent n memory q).line
    is_accepted =
        let is = answer_is_accepted q good sends 32 (good_values q good) (brought_back q n memory) end.line answer in
        subst (AcceptedFrom q n memory) (sym (ap (λ (s : Chain). s.line) (sent_good n memory q good)))
        (record { accepted = ap number_of is.0 ∙ accepted_reading q (brought_back q n memory) answer.fitting; reading = is.0; values = is.1 })

    -- the words that come back are words
    sent_wide : (i : ℕ) → get_or (sent n memory q).line i 0 < 65536
    sent_wide i =
        subst (λ (l : List ℕ). get_or l i 0 < 65536) (sym (ap (λ (s : Chain). s.line) (sent_good n memory q good) ∙ answer.written))
        (line_wide (answer_bytes q (brought_back q n memory) 0) i)

    still_chain : ChainMemory n (sent n memory q).memory
    still_chain =
        subst (ChainMemory n) (sym (ap (λ (s : Chain). s.memory) (sent_good n memory q good)))
        (record {
          least = c.least;
          most = c.most;
          size = hops_memory n 0 n (chain_with memory (command_line q)) ∙ c.size;
          words = still_registers q good sends n (λ some. refl) c.least c.most memory c.words c.size;
        })

  wide_either : (t : Bool) → good_question q ≡ t → (i : ℕ) → get_or (sent n memory q).line i 0 < 65536
  wide_either true good i = sent_wide good i
  wide_either false bad i = subst (λ (l : List ℕ). get_or l i 0 < 65536) (sym (ap (λ (s : Chain). s.line) (sent_bad n memory q bad))) (omega arith)

  chain_either : (t : Bool) → good_question q ≡ t → ChainMemory n (sent n memory q).memory
  chain_either true good = still_chain good
  chain_either false bad = subst (ChainMemory n) (sym (ap (λ (s : Chain). s.memory) (sent_bad n memory q bad))) c

  pub chain_after : ChainMemory n (sent n memory q).memory
  chain_after = chain_either (good_question q) refl

  -- the entry with its answer fits, and keeps the rules
  pub answered_fits : Fits h.version (with_words e (sent n memory q).line)
  answered_fits =
      let own = fields h.version e fits in
      fits_by h.version (with_words e (sent n memory q).line)
      (record {
        kind = own.kind;
        reg = own.reg;
        value = own.value;
        mask = own.mask;
        device = own.device;
        seed = own.seed;
        words = wide_either (good_question q) refl;
      })
      (omega (arith, answer_length q n memory, few_words q))

  pub answered_keeps : Keeps h e → Keeps h (with_words e (sent n memory q).line)
  answered_keeps rules = record {
    words = omega (arith, answer_length q n memory, few_words q);
    kind = rules.kind;
    register = rules.register;
    value = rules.value;
    mask = rules.mask;
    masked = rules.masked;
    whole = rules.whole;
    device = rules.device;
    seed = rules.seed;
  }

  -- with what follows it
  pub one_from_chain : (es : List Entry) → FromChain h (sent n memory q).memory es → FromChain h memory (with_words e (sent n memory q).line ∷ es)
  one_from_chain es later = by_test (good_question q) refl
    where
      by_test : (t : Bool) → good_question q ≡ t → FromChain h memory (with_words e (sent n memory q).line ∷ es)
      by_test true good =
          answered-good memory (sent n memory q).memory (with_words e (sent n memory q).line) es good (is_accepted good)
          (λ k i inside. ap (λ (s : Chain). held s.memory k i) (sent_good n memory q good)
          ∙ held_after q good sends n (λ some. refl) c.least c.most memory c.words c.size k i inside) later
      by_test false bad =
          not_sent memory (with_words e (sent n memory q).line) es bad (ap (λ (s : Chain). s.line) (sent_bad n memory q bad))
          (subst (λ (m : List ℕ). FromChain h m es) (ap (λ (s : Chain). s.memory) (sent_bad n memory q bad)) later)
