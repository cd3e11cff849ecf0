-- Entries heard and told one after the other: what stands after each, and after the last.
use mathlib.Core.Path.{◌≡◌, refl, sym, ap, ap₂, subst, ◌∙◌}
use mathlib.Core.Bool.{true}
use mathlib.Core.List.{List, [], ◌∷◌, ◌++◌, map, append_assoc, append-nil}
use Prim.Native.Nat.{ℕ, ◌+◌, ◌-◌, ◌*◌, ◌≤◌, ◌<◌}
use native.Mathlib.Numerals.{add-one}
use native.Mathlib.Omega.{arith}
use lib.ListN.{length, take, drop, length-set}
use lib.Seq.{take-suc-set}
use Rattle.jobs.specs.declared.Header.{Header}
use Rattle.jobs.specs.Format.{head_size}
use Rattle.jobs.specs.Check.{size_in, good_entries, entries_in, good_file, header_in}
use Rattle.jobs.proofs.Sizes.{head_bounds, field_bounds}
use Rattle.jobs.proofs.Placed.{entry_within}
use Rattle.jobs.proofs.Entries.{first_good, good_here, entries_here, no_more_entries, parts}
use Rattle.letters.specs.declared.Standing.{Standing}
use Rattle.letters.specs.Letters.{Heard, heard_from, begun}
use Rattle.printing.specs.Print.{most_entries}
use Rattle.certificate.specs.declared.Told.{Told}
use Rattle.listening.specs.Listening.{heard_of, number_for, heard_here}
use Rattle.certificate.specs.Certificate.{heard_in, numbers_of}
use Rattle.certificate.specs.Telling.{ToldOne, ToldAll}

-- what is left to hear from a place on
abbrev pub heard_left : Header → (file : List ℕ) → (at : ℕ) → List Heard
heard_left h file at = map (heard_of h) (entries_in h.version (drop at file))

-- on the way: what was told, and what is left, make up the whole
pub record Going (h : Header) (file kept : List ℕ) (told : Told) : Type 0 where
  pub passed : head_size + 8 * told.entries ≤ told.at
  pub within : told.at ≤ length file
  pub good : good_entries h (drop told.at file) ≡ true
  pub room : length kept ≡ most_entries
  pub numbers : take told.entries kept ++ numbers_of (heard_left h file told.at) ≡ numbers_of (heard_left h file head_size)
  pub standing : heard_from told.standing (heard_left h file told.at) ≡ heard_from begun (heard_left h file head_size)

module _ (h : Header) (file : List ℕ) (ok : good_file file ≡ true) (is : h ≡ header_in file) where
  pub going_first : (kept : List ℕ) (at : ℕ) (s : Standing) → length kept ≡ most_entries → at ≡ head_size → s ≡ begun
      → Going h file kept (record { at = at; entries = 0; standing = s })
  going_first kept at s room start begins = subst (λ (k : ℕ). Going h file kept (record { at = k; entries = 0; standing = s })) (sym start) record {
    passed = omega arith;
    within = (parts file ok).long;
    good = ap (λ (x : Header). good_entries x (drop head_size file)) is ∙ (parts file ok).entries;
    room = room;
    numbers = refl;
    standing = ap (λ (t : Standing). heard_from t (heard_left h file head_size)) begins;
  }

module _ (h : Header) (file kept kept' : List ℕ) (told told' : Told) (short : length file ≤ 65536) (here : told.at < length file)
    (going : Going h file kept told) where
  abbrev at : ℕ
  at = told.at

  abbrev now_heard : Heard
  now_heard = heard_here h (drop at file)

  -- no job file has more than 8,191 entries
  pub room_left : told.entries < length kept
  room_left = omega (arith, going.passed, going.room, entry_within h file at (first_good h file at here going.good), head_bounds.0, (field_bounds h.version).0)

  left : heard_left h file at ≡ now_heard ∷ heard_left h file (at + size_in h.version (drop at file))
  left = ap (map (heard_of h)) (entries_here h.version file at here)

  pub going_on : ToldOne h file told kept kept' told' → Going h file kept' told'
  unfolding heard_from
  going_on one =
      let further = at + size_in h.version (drop at file) in
      let rest = heard_left h file further in
      let number = number_for now_heard in
      let more : take told'.entries kept' ≡ take told.entries kept ++ (number ∷ []) =
      ap₂ take (one.entries ∙ add-one told.entries) one.numbers ∙ take-suc-set kept told.entries number room_left in
      record {
        passed = omega (arith, going.passed, one.at, one.entries, (field_bounds h.version).0);
        within = omega (arith, one.at, entry_within h file at (first_good h file at here going.good));
        good =
            ap (λ (k : ℕ). good_entries h (drop k file)) one.at
            ∙ sym (good_here h file at here (first_good h file at here going.good)) ∙ going.good;
        room = ap length one.numbers ∙ length-set kept told.entries number ∙ going.room;
        numbers =
            ap₂ (λ (l : List ℕ) (k : ℕ). l ++ numbers_of (heard_left h file k)) more one.at
            ∙ append_assoc (take told.entries kept) (number ∷ []) (numbers_of rest)
            ∙ ap (λ (l : List Heard). take told.entries kept ++ numbers_of l) (sym left) ∙ going.numbers;
        standing =
            ap₂ (λ (s : Standing) (k : ℕ). heard_from s (heard_left h file k)) one.standing one.at
            ∙ ap (heard_from told.standing) (sym left) ∙ going.standing;
      }

  pub going_less : ToldOne h file told kept kept' told' → length file - told'.at < length file - told.at
  going_less one = omega (arith, one.at, (field_bounds h.version).0)

-- nothing is left: all is told
pub all_told : (h : Header) (file kept : List ℕ) (told : Told) → h ≡ header_in file → length file ≤ 65536 → length file ≤ told.at → Going h file kept told → ToldAll file kept told
unfolding heard_from
all_told h file kept told is short over going =
    let none : heard_left h file told.at ≡ [] = ap (map (heard_of h)) (no_more_entries h.version file told.at over) in
    let whole : heard_left h file head_size ≡ heard_in file = ap (λ (x : Header). heard_left x file head_size) is in
    record {
      numbers =
          sym (append-nil (take told.entries kept)) ∙ ap (λ (l : List Heard). take told.entries kept ++ numbers_of l) (sym none)
          ∙ going.numbers ∙ ap numbers_of whole;
      standing = ap (heard_from told.standing) (sym none) ∙ going.standing ∙ ap (heard_from begun) whole;
      few = omega (arith, going.passed, going.within, going.room, head_bounds.0);
    }
