-- What `open` and `next_entry` say, taken apart: a file turned away is no job file; where a good entry stands, it is the next one.
use mathlib.Core.Path.{◌≡◌, refl, sym, ap, ◌∙◌}
use mathlib.Core.Bool.{Bool, true, false, cond}
use mathlib.Core.List.{List, [], ◌∷◌}
use Prim.Native.Nat.{ℕ, ◌+◌, ◌*◌, ◌≤◌}
use native.Mathlib.Omega.{arith}
use lib.ListN.{length, take, drop, length-drop}
use lib.Seq.{drop-drop}
use Rattle.std.specs.Prelude.{Option, Some, Result, Ok, Err}
use Rattle.ground.proofs.Test.{refuted}
use Rattle.packing.specs.Words.{words_of}
use Rattle.jobs.specs.declared.Header.{Header}
use Rattle.jobs.specs.declared.EntryAt.{EntryAt}
use Rattle.jobs.specs.declared.Cursor.{Cursor}
use Rattle.jobs.specs.declared.NoJob.{NoJob}
use Rattle.jobs.specs.Format.{field_size}
use Rattle.jobs.specs.Check.{words_in, size_in, mask_in, entry_in, asked_in, good_entry, placed_in, next_in, next_of, good_file, opened_of}
use Rattle.jobs.specs.Refusals.{not_job}
use Rattle.jobs.proofs.Sizes.{field_bounds}
use Rattle.jobs.proofs.GoodEntry.{good, next_is}
use Rattle.jobs.proofs.Entries.{opened_good}

-- what is said at a cursor
abbrev pub Said : Type 0
Said = Result (Option (EntryAt × Cursor)) NoJob

-- an entry is said only where a good one stands
pub entry_stands : (h : Header) (file : List ℕ) (at : ℕ) (r : Said) (e : EntryAt) (c : Cursor) → r ≡ next_of h file (record { at = at }) → r ≡ Ok (Some (e, c))
    → good_entry h (drop at file) ≡ true
unfolding next_of
entry_stands h file at r e c says is = by_bytes (drop at file) (sym says ∙ is)
  where
    by_test : (t : Bool) (n : Said) → cond t n (Err not_job) ≡ Ok (Some (e, c)) → t ≡ true
    by_test true n same = refl
    by_test false n same = let z : ◌≡◌ {A = ℕ} 0 1 = cc in absurd (omega arith)

    by_bytes : (l : List ℕ) → next_in h at l ≡ Ok (Some (e, c)) → good_entry h l ≡ true
    by_bytes [] same = let z : ◌≡◌ {A = ℕ} 0 1 = cc in absurd (omega arith)
    by_bytes (b ∷ l) same = by_test (good_entry h (b ∷ l)) (Ok (Some (placed_in h at (b ∷ l)))) same

module _ (h : Header) (file : List ℕ) (at : ℕ) (this_good : good_entry h (drop at file) ≡ true) where
  pub found : next_of h file (record { at = at }) ≡ Ok (Some (placed_in h at (drop at file)))
  unfolding next_of
  found =
      next_is h (drop at file) at (omega (arith, (good h (drop at file) this_good).whole, (field_bounds h.version).0))
      ∙ ap (λ (t : Bool). cond t (Ok (Some (placed_in h at (drop at file)))) (Err not_job)) this_good

  -- so that the other answers do not come
  pub no_other : (r : Said) → r ≡ next_of h file (record { at = at }) → ((e : EntryAt) (c : Cursor) → r ≡ Ok (Some (e, c)) → ⊥) → ⊥
  no_other r says other = other _ _ (says ∙ found)

  -- and the one that comes is the entry in its place
  pub record Placed (e : EntryAt) (c : Cursor) : Type 0 where
    pub entry : e ≡ record {
      question = asked_in h (drop at file);
      mask = mask_in h.version (drop at file);
      start = at + field_size h.version;
      words = words_in h.version (drop at file);
    }
    pub after : c.at ≡ at + size_in h.version (drop at file)

  pub placed : (r : Said) (e : EntryAt) (c : Cursor) → r ≡ next_of h file (record { at = at }) → r ≡ Ok (Some (e, c)) → Placed e c
  placed r e c says is = by (sym is ∙ says ∙ found)
    where
      by : ◌≡◌ {A = Said} (Ok (Some (e, c))) (Ok (Some (placed_in h at (drop at file)))) → Placed e c
      by same =
          let both : ◌≡◌ {A = EntryAt × Cursor} (e, c) (placed_in h at (drop at file)) = cc in
          record { entry = ap (λ (x : EntryAt × Cursor). x.0) both; after = ap (λ (x : EntryAt × Cursor). x.1.at) both }

  pub entry_words : words_in h.version (drop at file) ≤ 140
  entry_words = (good h (drop at file) this_good).words

  pub entry_within : at + size_in h.version (drop at file) ≤ length file
  entry_within = omega (arith, (good h (drop at file) this_good).whole, length-drop at file, (field_bounds h.version).0)

  -- the words behind its fields
  pub words_there : words_of (take (2 * words_in h.version (drop at file)) (drop (at + field_size h.version) file)) ≡ (entry_in h.version (drop at file)).words
  words_there = ap (λ (l : List ℕ). words_of (take (2 * words_in h.version (drop at file)) l)) (sym (drop-drop (field_size h.version) at file))

-- a file that is turned away
pub no_job : (file : List ℕ) (r : Result Header NoJob) → r ≡ opened_of file → ((h : Header) → r ≡ Ok h → ⊥) → good_file file ≡ false
no_job file r says other =
    refuted (good_file file) (λ ok. other _ (says ∙ opened_good file ok))
