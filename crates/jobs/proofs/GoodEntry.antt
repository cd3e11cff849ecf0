-- The entry at the front of some bytes: what holds of a good one, when it is not good, and what `next_entry` says of it.
use mathlib.Core.Path.{◌≡◌, refl, ap, ap₂, ◌∙◌}
use mathlib.Core.Bool.{true, false, cond, ◌&&◌}
use mathlib.Core.List.{List, [], ◌∷◌}
use Prim.Native.Nat.{ℕ, ◌+◌, ◌*◌, ◌<◌, ◌≤◌}
use native.Mathlib.Omega.{arith}
use lib.Dec.{leb}
use lib.ListN.{length, get_or, take, drop, length-take, length-drop}
use borrow.Author.Tests.{leb-true, le-leb}
use Rattle.std.specs.Prelude.{Some, Ok, Err}
use Rattle.ground.proofs.Test.{and_left, and_right, refuted}
use Rattle.packing.proofs.Back.{length_words}
use Rattle.questions.specs.declared.question.Question.{Question}
use Rattle.jobs.specs.declared.Header.{Header}
use Rattle.jobs.specs.Format.{field_size}
use Rattle.masks.specs.Masks.{good_mask}
use Rattle.used_fields.specs.Used.{unused_are_zero}
use Rattle.jobs.specs.Rules.{keeps_rules}
use Rattle.jobs.specs.declared.EntryAt.{EntryAt}
use Rattle.jobs.specs.declared.Cursor.{Cursor}
use Rattle.jobs.specs.Refusals.{not_job}
use Rattle.jobs.specs.Check.{words_in, size_in, mask_in, entry_in, asked_in, good_entry, placed_in, next_in}

-- an entry that is not cut short has as many words as it says
pub words_number : (version : ℕ) (front : List ℕ) → size_in version front ≤ length front → length (entry_in version front).words ≡ words_in version front
words_number version front fits =
    let behind = drop (field_size version) front in
    let bytes = 2 * words_in version front in
    omega (arith, length_words (take bytes behind), length-take bytes behind, length-drop (field_size version) front)

-- what holds of a good entry
pub record Good (h : Header) (front : List ℕ) : Type 0 where
  pub whole : size_in h.version front ≤ length front
  pub words : words_in h.version front ≤ 140
  pub rules : keeps_rules h (entry_in h.version front) ≡ true

pub good : (h : Header) (front : List ℕ) → good_entry h front ≡ true → Good h front
unfolding good_entry keeps_rules
good h front e =
    let v = h.version in
    let x = entry_in v front in
    let fits = leb-true (size_in v front) (length front) (and_right (leb (field_size v) (length front)) _ (and_left _ _ e)) in
    let rules = and_right (leb (field_size v) (length front) && leb (size_in v front) (length front)) _ e in
    record {
      whole = fits;
      words = omega (arith, words_number v front fits, leb-true (length x.words) 140 (and_left _ _ (and_left _ _ (and_left _ _ rules))));
      rules = rules;
    }

module _ (h : Header) (front : List ℕ) where
  abbrev v : ℕ
  v = h.version

  pub too_short : length front < field_size v → good_entry h front ≡ false
  too_short short = refuted (good_entry h front) (λ e. absurd (omega (arith, (good h front e).whole)))

  pub cut_short : length front < size_in v front → good_entry h front ≡ false
  cut_short short = refuted (good_entry h front) (λ e. absurd (omega (arith, (good h front e).whole)))

  pub too_many : 140 < words_in v front → good_entry h front ≡ false
  too_many many = refuted (good_entry h front) (λ e. absurd (omega (arith, (good h front e).words)))

  -- an entry that is not cut short goes by its fields
  pub of_its_fields : size_in v front ≤ length front → words_in v front ≤ 140
      → good_entry h front ≡ (leb (get_or front 0 0) 4 && unused_are_zero (asked_in h front) && good_mask v (get_or front 0 0) (mask_in v front))
  unfolding good_entry keeps_rules
  of_its_fields whole words =
      simp (
        le-leb (field_size v) (length front) (omega arith),
        le-leb (size_in v front) (length front) whole,
        le-leb (length (entry_in v front).words) 140 (omega (arith, words_number v front whole)),
      )

  -- the answer at a place where bytes are left
  pub next_is : (at : ℕ) → 0 < length front → next_in h at front ≡ cond (good_entry h front) (Ok (Some (placed_in h at front))) (Err not_job)
  next_is at some = by_bytes front some
    where
      by_bytes : (l : List ℕ) → 0 < length l → next_in h at l ≡ cond (good_entry h l) (Ok (Some (placed_in h at l))) (Err not_job)
      by_bytes [] some = absurd (omega arith)
      by_bytes (b ∷ l) some = refl

  abbrev stands : Question → (mask start words after : ℕ) → EntryAt × Cursor
  stands q mask start words after = (record { question = q; mask = mask; start = start; words = words }, record { at = after })

  -- and where it stands, from its question and mask, the size of its fields and the number of its words
  pub placed_is : (at : ℕ) (q : Question) (mask fields words : ℕ) → q ≡ asked_in h front → mask ≡ mask_in v front → fields ≡ field_size v → words ≡ words_in v front
      → ◌≡◌ {A = EntryAt × Cursor} (record { question = q; mask = mask; start = at + fields; words = words }, record { at = at + fields + 2 * words }) (placed_in h at front)
  placed_is at q mask fields words asks shows size number =
      let behind : at + fields + 2 * words ≡ at + size_in v front = omega (arith, size, number) in
      ap₂ (λ (x : Question) (k : ℕ). stands x mask (at + fields) words k) asks behind
      ∙ ap₂ (λ (m k : ℕ). stands (asked_in h front) m (at + k) words (at + size_in v front)) shows size
      ∙ ap (λ (w : ℕ). stands (asked_in h front) (mask_in v front) (at + field_size v) w (at + size_in v front)) number
