-- What callers may use of a file's entries: how they go on behind a good one, and what a good file is made of.
use mathlib.Core.Path.{◌≡◌, refl, sym, ap, ◌∙◌}
use mathlib.Core.Bool.{Bool, true, false, cond, ◌&&◌}
use mathlib.Core.List.{List, [], ◌∷◌}
use Prim.Native.Nat.{ℕ, ◌+◌, ◌*◌, ◌<◌, ◌≤◌}
use native.Mathlib.Omega.{arith}
use lib.Dec.{leb}
use lib.ListN.{length, drop, length-drop}
use borrow.Author.Tests.{leb-true}
use Rattle.std.specs.Prelude.{Result, Ok, Err}
use Rattle.ground.proofs.Test.{and_left, and_right}
use Rattle.jobs.specs.declared.Header.{Header}
use Rattle.jobs.specs.Format.{Entry, head_size}
use Rattle.jobs.specs.Rules.{good_header}
use Rattle.jobs.specs.declared.NoJob.{NoJob}
use Rattle.jobs.specs.Refusals.{not_job}
use Rattle.jobs.specs.Check.{size_in, entry_in, good_entry, good_entries, entries_in, marked, header_in, good_file, opened_of}
use Rattle.jobs.proofs.Sizes.{field_bounds}
use Rattle.jobs.proofs.Walk.{no_bytes, one_entry, walk_here, walk_over}
use Rattle.jobs.proofs.EachEntry.{each_entry}
use Rattle.jobs.proofs.GoodEntry.{good}

module _ (h : Header) (file : List ℕ) (at : ℕ) where
  -- a good entry, and the rest behind it
  pub good_here : at < length file → good_entry h (drop at file) ≡ true
      → good_entries h (drop at file) ≡ good_entries h (drop (at + size_in h.version (drop at file)) file)
  good_here here e =
      walk_here h.version true (λ (front : List ℕ) (later : Bool). good_entry h front && later) file at here
      ∙ ap (λ (t : Bool). t && good_entries h (drop (at + size_in h.version (drop at file)) file)) e

  pub bad_here : at < length file → good_entry h (drop at file) ≡ false → good_entries h (drop at file) ≡ false
  bad_here here e =
      walk_here h.version true (λ (front : List ℕ) (later : Bool). good_entry h front && later) file at here
      ∙ ap (λ (t : Bool). t && good_entries h (drop (at + size_in h.version (drop at file)) file)) e

  -- of good entries the first is good
  pub first_good : at < length file → good_entries h (drop at file) ≡ true → good_entry h (drop at file) ≡ true
  first_good here e =
      and_left _ _ (sym (walk_here h.version true (λ (front : List ℕ) (later : Bool). good_entry h front && later) file at here) ∙ e)

pub no_more_good : (h : Header) (file : List ℕ) (at : ℕ) → length file ≤ at → good_entries h (drop at file) ≡ true
no_more_good h file at over = walk_over h.version true (λ (front : List ℕ) (later : Bool). good_entry h front && later) file at over

module _ (version : ℕ) (file : List ℕ) (at : ℕ) where
  pub entries_here : at < length file
      → entries_in version (drop at file) ≡ entry_in version (drop at file) ∷ entries_in version (drop (at + size_in version (drop at file)) file)
  entries_here here = walk_here version [] (λ (front : List ℕ) (later : List Entry). entry_in version front ∷ later) file at here

  pub no_more_entries : length file ≤ at → entries_in version (drop at file) ≡ []
  no_more_entries over = walk_over version [] (λ (front : List ℕ) (later : List Entry). entry_in version front ∷ later) file at over

-- whatever its size, an entry has 8 bytes at least
pub few_entries : (h : Header) (bytes : List ℕ) → good_entries h bytes ≡ true → 8 * length (entries_in h.version bytes) ≤ length bytes
few_entries h =
    each_entry h (λ (bytes : List ℕ). 8 * length (entries_in h.version bytes) ≤ length bytes) (no_bytes h.version)
    (λ front some ok rest. omega (
      arith,
      rest,
      (good h front ok).whole,
      length-drop (size_in h.version front) front,
      (field_bounds h.version).0,
      ap length (one_entry h.version [] (λ (f : List ℕ) (l : List Entry). entry_in h.version f ∷ l) front some),
    ))

-- ---- what a good file is made of

pub record Parts (file : List ℕ) : Type 0 where
  pub size : length file ≤ 65536
  pub long : head_size ≤ length file
  pub mark : marked file ≡ true
  pub header : good_header (header_in file) ≡ true
  pub entries : good_entries (header_in file) (drop head_size file) ≡ true

pub parts : (file : List ℕ) → good_file file ≡ true → Parts file
unfolding good_file
parts file ok =
    let four = and_left _ (good_entries (header_in file) (drop head_size file)) ok in
    let three = and_left _ (good_header (header_in file)) four in
    let two = and_left _ (marked file) three in
    record {
      size = leb-true (length file) 65536 (and_left _ (leb head_size (length file)) two);
      long = leb-true head_size (length file) (and_right (leb (length file) 65536) _ two);
      mark = and_right (leb (length file) 65536 && leb head_size (length file)) _ three;
      header = and_right (leb (length file) 65536 && leb head_size (length file) && marked file) _ four;
      entries = and_right (leb (length file) 65536 && leb head_size (length file) && marked file && good_header (header_in file)) _ ok;
    }

-- what `open` says, taken apart
pub record Job (h : Header) (file : List ℕ) : Type 0 where
  pub good : good_file file ≡ true
  pub header : h ≡ header_in file

pub a_job : (h : Header) (file : List ℕ) → opened_of file ≡ Ok h → Job h file
unfolding opened_of
a_job h file = by_test (good_file file) refl
  where
    by_test : (t : Bool) → good_file file ≡ t → ◌≡◌ {A = Result Header NoJob} (cond t (Ok (header_in file)) (Err not_job)) (Ok h) → Job h file
    by_test true ok e = record { good = ok; header = cc }
    by_test false bad e = let z : ◌≡◌ {A = ℕ} 0 1 = cc in absurd (omega arith)

pub opened_good : (file : List ℕ) → good_file file ≡ true → opened_of file ≡ Ok (header_in file)
unfolding opened_of
opened_good file ok = ap (λ (t : Bool). cond t (Ok (header_in file)) (Err not_job)) ok

pub header_version : (h : Header) → good_header h ≡ true → h.version ≤ 2
unfolding good_header
header_version h ok =
    leb-true h.version 2 (and_right (leb 1 h.version) _ (and_left _ (leb 1 h.n) (and_left _ (leb h.n 32) (and_left _ (leb h.alive 1) ok))))

pub header_least : (h : Header) → good_header h ≡ true → 1 ≤ h.n
unfolding good_header
header_least h ok =
    leb-true 1 h.n (and_right (leb 1 h.version && leb h.version 2) _ (and_left _ (leb h.n 32) (and_left _ (leb h.alive 1) ok)))

pub header_most : (h : Header) → good_header h ≡ true → h.n ≤ 32
unfolding good_header
header_most h ok =
    leb-true h.n 32 (and_right (leb 1 h.version && leb h.version 2 && leb 1 h.n) _ (and_left _ (leb h.alive 1) ok))
