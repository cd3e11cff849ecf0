-- Entries answered one after the other: what stands in the output, with the answers that are left behind it, is always the whole.
use mathlib.Core.Path.{◌≡◌, refl, sym, ap, ap₂, subst, ◌∙◌}
use mathlib.Core.List.{List, ◌++◌}
use Prim.Native.Nat.{ℕ, ◌+◌, ◌*◌, ◌≤◌, ◌<◌}
use native.Mathlib.Omega.{arith}
use lib.ListN.{length, take, drop}
use lib.Seq.{sets, length-sets}
use Rattle.ground.proofs.Lists.{sets_append}
use Rattle.packing.specs.Words.{as_bytes}
use Rattle.questions.specs.declared.question.Question.{Question}
use Rattle.jobs.specs.declared.Header.{Header}
use Rattle.jobs.specs.Format.{Entry, head_size, field_size, asked, entry_bytes, entries_bytes}
use Rattle.jobs.specs.Check.{size_in, mask_in, entry_in, asked_in, entries_in}
use Rattle.jobs.proofs.Sizes.{fields_length}
use Rattle.jobs.proofs.Entries.{entries_here, no_more_entries}
use Rattle.rehearsal.specs.declared.Places.{Places}
use Rattle.rehearsal.specs.Rehearsal.{answer_words, sent, with_words, rehearsed}
use Rattle.rehearsal.specs.Answering.{SentDone, fields_for, entry_with, answered_at, AnsweredOne, Ready}
use Rattle.rehearsal.proofs.Sending.{answer_length}
use Rattle.rehearsal.proofs.Counting.{answered_size_lem, rehearsed_size, Counting, counting_on}

-- an entry's bytes: its fields, and its words
fields_and_words : (h : Header) (e : Entry) (words : List ℕ) (n : ℕ) → n ≡ length words
    → fields_for h.version (asked h e) e.mask n ++ as_bytes words ≡ entry_bytes h.version (with_words e words)
fields_and_words h e words n is = ap (λ (k : ℕ). fields_for h.version (asked h e) e.mask k ++ as_bytes words) is

-- one entry: its fields laid, and its answer's words behind them
pub answered_one : (h : Header) (file memory memory' line out out₁ out₂ : List ℕ) (p : Places) (q : Question) (mask words behind after : ℕ)
    → q ≡ asked_in h (drop p.at file) → mask ≡ mask_in h.version (drop p.at file) → SentDone h.n q memory memory' line words
    → out₁ ≡ sets out p.to (fields_for h.version q mask words) → behind ≡ p.to + field_size h.version
    → out₂ ≡ sets out₁ behind (as_bytes (take words line)) → after ≡ p.at + size_in h.version (drop p.at file)
    → AnsweredOne h file p memory memory' out out₂ (record { at = after; to = behind + 2 * words })
answered_one h file memory memory' line out out₁ out₂ p q mask words behind after is shows done fields further laid next =
    let v = h.version in
    let e = entry_in v (drop p.at file) in
    let asks = asked_in h (drop p.at file) in
    let comes : take words line ≡ (sent h.n memory asks).line = done.comes ∙ ap (λ (x : Question). (sent h.n memory x).line) is in
    let number : words ≡ answer_words asks = done.words ∙ ap answer_words is in
    let back = (sent h.n memory asks).line in
    record {
      places = ap₂ (λ (at to : ℕ). record { at = at; to = to }) next (ap₂ (λ (k n : ℕ). k + 2 * n) further number);
      remembers = done.remembers ∙ ap (λ (x : Question). (sent h.n memory x).memory) is;
      leaves =
          laid ∙ ap₂ (λ (l w : List ℕ). sets l behind (as_bytes w)) (fields ∙ ap₂ (λ (x : Question) (m : ℕ). sets out p.to (fields_for v x m words)) is shows) comes
          ∙ ap (λ (k : ℕ). sets (sets out p.to (fields_for v asks e.mask words)) k (as_bytes back))
          (further ∙ ap (λ (k : ℕ). p.to + k) (sym (fields_length v asks.kind asks.reg asks.value e.mask asks.device asks.seed words)))
          ∙ sym (sets_append out p.to (fields_for v asks e.mask words) (as_bytes back))
          ∙ ap (sets out p.to) (fields_and_words h e back words (number ∙ sym (answer_length asks h.n memory)));
    }

-- what stands in the output, with the answers that are left behind it, is the whole
pub record Going (h : Header) (file memory₀ out₀ memory out : List ℕ) (p : Places) : Type 0 where
  pub counts : Counting h file p
  pub chain : length memory ≡ length memory₀
  pub room : length out ≡ length out₀
  pub whole : sets out p.to (entries_bytes h.version (rehearsed h memory (entries_in h.version (drop p.at file))))
      ≡ sets out₀ head_size (entries_bytes h.version (rehearsed h memory₀ (entries_in h.version (drop head_size file))))

pub going_first : (h : Header) (file memory out : List ℕ) → Ready h file memory out → (at : ℕ) → at ≡ head_size
    → Going h file memory out memory out (record { at = at; to = at })
going_first h file memory out ready at start = subst (λ (k : ℕ). Going h file memory out memory out (record { at = k; to = k })) (sym start) record {
  counts = record { within = ready.long; good = ready.good; slow = omega arith; sum = refl };
  chain = refl;
  room = refl;
  whole = refl;
}

module _ (h : Header) (file memory₀ out₀ memory memory' out out' : List ℕ) (p r : Places) (here : p.at < length file)
    (going : Going h file memory₀ out₀ memory out p) where
  -- places stay small
  pub low_place : Ready h file memory₀ out₀ → p.to + 296 ≤ 100000
  low_place ready = omega (arith, going.counts.sum, ready.short, rehearsed_size h memory₀ (entries_in h.version (drop head_size file)))

  pub going_on : AnsweredOne h file p memory memory' out out' r → length memory' ≡ length memory → Going h file memory₀ out₀ memory' out' r
  unfolding rehearsed entries_bytes
  going_on one kept =
      let at = p.at in
      let e = answered_at h file at memory in
      let next = entry_with h file p in
      let rest = entries_bytes h.version (rehearsed h memory' (entries_in h.version (drop next.at file))) in
      let after : next.to ≡ p.to + length (entry_bytes h.version e) = omega (arith, answered_size_lem h memory (entry_in h.version (drop at file))) in
      let split : entries_bytes h.version (rehearsed h memory (entries_in h.version (drop at file))) ≡ entry_bytes h.version e ++ rest =
      ap (λ (es : List Entry). entries_bytes h.version (rehearsed h memory es)) (entries_here h.version file at here)
      ∙ ap (λ (m : List ℕ). entry_bytes h.version e ++ entries_bytes h.version (rehearsed h m (entries_in h.version (drop next.at file)))) (sym one.remembers) in
      record {
        counts = subst (Counting h file) (sym one.places) (counting_on h file p here going.counts);
        chain = kept ∙ going.chain;
        room = ap length one.leaves ∙ length-sets out p.to (entry_bytes h.version e) ∙ going.room;
        whole =
            ap (λ (x : Places). sets out' x.to (entries_bytes h.version (rehearsed h memory' (entries_in h.version (drop x.at file))))) one.places
            ∙ ap₂ (λ (l : List ℕ) (k : ℕ). sets l k rest) one.leaves after
            ∙ sym (sets_append out p.to (entry_bytes h.version e) rest) ∙ ap (sets out p.to) (sym split) ∙ going.whole;
      }

pub all_answered : (h : Header) (file memory₀ out₀ memory out : List ℕ) (p : Places) → length file ≤ p.at → Going h file memory₀ out₀ memory out p
    → out ≡ sets out₀ head_size (entries_bytes h.version (rehearsed h memory₀ (entries_in h.version (drop head_size file))))
unfolding rehearsed entries_bytes
all_answered h file memory₀ out₀ memory out p over going =
    ap (λ (es : List Entry). sets out p.to (entries_bytes h.version (rehearsed h memory es))) (sym (no_more_entries h.version file p.at over)) ∙ going.whole
