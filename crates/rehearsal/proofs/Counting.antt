-- How long the answered file is, counted entry by entry: it depends on the questions alone, never on what the registers hold.
use mathlib.Core.Path.{◌≡◌, refl, sym, ap, subst, ◌∙◌}
use mathlib.Core.Bool.{true}
use mathlib.Core.List.{List, [], ◌∷◌}
use Prim.Native.Nat.{ℕ, ◌+◌, ◌*◌, ◌≤◌, ◌<◌}
use native.Mathlib.Omega.{arith}
use lib.ListN.{length, drop, length-append}
use Rattle.packing.specs.Words.{as_bytes}
use Rattle.packing.proofs.Back.{length_bytes}
use Rattle.jobs.specs.declared.Header.{Header}
use Rattle.jobs.specs.Format.{Entry, head_size, field_size, field_bytes, asked, entry_bytes, entries_bytes}
use Rattle.jobs.specs.Check.{size_in, asked_in, good_entries, entries_in, header_in, good_file}
use Rattle.jobs.proofs.Sizes.{head_length, fields_length, field_bounds}
use Rattle.jobs.proofs.Entries.{first_good, good_here, entries_here, no_more_entries, parts}
use Rattle.jobs.proofs.Placed.{entry_within}
use Rattle.rehearsal.specs.declared.Places.{Places}
use Rattle.registers.specs.Memory.{power_on_memory}
use Rattle.rehearsal.specs.Rehearsal.{answer_words, answered_size, sent, with_words, rehearsed, rehearsal_of}
use Rattle.rehearsal.specs.Answering.{entry_with}
use Rattle.rehearsal.proofs.Sending.{few_words, answer_length}

pub answered_size_lem : (h : Header) (memory : List ℕ) (e : Entry) → length (entry_bytes h.version (with_words e (sent h.n memory (asked h e)).line)) ≡ field_size h.version + 2 * answer_words (asked h e)
answered_size_lem h memory e =
    let words = (sent h.n memory (asked h e)).line in
    let fields = field_bytes h.version e.kind e.reg e.value e.mask e.device e.seed (length words) in
    omega (
      arith,
      fields_length h.version e.kind e.reg e.value e.mask e.device e.seed (length words),
      length-append fields (as_bytes words),
      length_bytes words,
      answer_length (asked h e) h.n memory,
    )

pub rehearsed_size : (h : Header) (memory : List ℕ) (es : List Entry) → length (entries_bytes h.version (rehearsed h memory es)) ≡ answered_size h es
unfolding rehearsed entries_bytes answered_size
rehearsed_size h memory [] = refl
rehearsed_size h memory (e ∷ es) =
    let s = sent h.n memory (asked h e) in
    omega (arith, length-append (entry_bytes h.version (with_words e s.line)) (entries_bytes h.version (rehearsed h s.memory es)), answered_size_lem h memory e, rehearsed_size h s.memory es)

-- what is counted, and what is left, make up the whole
pub record Counting (h : Header) (file : List ℕ) (p : Places) : Type 0 where
  pub within : p.at ≤ length file
  pub good : good_entries h (drop p.at file) ≡ true
  pub slow : p.to ≤ 40 * p.at
  pub sum : p.to + answered_size h (entries_in h.version (drop p.at file)) ≡ head_size + answered_size h (entries_in h.version (drop head_size file))

size_here : (h : Header) (file : List ℕ) (at : ℕ) → at < length file
    → answered_size h (entries_in h.version (drop at file)) ≡ field_size h.version + 2 * answer_words (asked_in h (drop at file)) + answered_size h (entries_in h.version (drop (at + size_in h.version (drop at file)) file))
unfolding answered_size
size_here h file at here = ap (answered_size h) (entries_here h.version file at here)

pub counting_first : (h : Header) (file : List ℕ) → good_file file ≡ true → h ≡ header_in file → (at : ℕ) → at ≡ head_size
    → Counting h file (record { at = at; to = at })
counting_first h file ok is at start = subst (λ (k : ℕ). Counting h file (record { at = k; to = k })) (sym start) record {
  within = (parts file ok).long;
  good = ap (λ (x : Header). good_entries x (drop head_size file)) is ∙ (parts file ok).entries;
  slow = omega arith;
  sum = refl;
}

module _ (h : Header) (file : List ℕ) (p : Places) (here : p.at < length file) (counting : Counting h file p) where
  pub counting_on : Counting h file (entry_with h file p)
  counting_on = record {
    within = entry_within h file p.at (first_good h file p.at here counting.good);
    good = sym (good_here h file p.at here (first_good h file p.at here counting.good)) ∙ counting.good;
    slow = omega (arith, counting.slow, few_words (asked_in h (drop p.at file)), (field_bounds h.version).0);
    sum = omega (arith, counting.sum, size_here h file p.at here);
  }

no_size : (h : Header) → answered_size h [] ≡ 0
unfolding answered_size
no_size h = refl

pub counted : (h : Header) (file : List ℕ) (p : Places) → h ≡ header_in file → length file ≤ p.at → Counting h file p → p.to ≡ length (rehearsal_of file)
unfolding rehearsal_of
counted h file p is over counting =
    let h' = header_in file in
    let es = entries_in h'.version (drop head_size file) in
    omega (
      arith,
      counting.sum,
      ap (answered_size h) (no_more_entries h.version file p.at over),
      no_size h,
      head_length h',
      ap (λ (x : Header). answered_size x (entries_in x.version (drop head_size file))) is,
      rehearsed_size h' (power_on_memory h'.n) es,
    )
