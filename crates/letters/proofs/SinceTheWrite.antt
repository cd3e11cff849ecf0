-- What is heard after the last good write: the write and its mask stay, and a device's letter is what the last read that decides makes of it, or U.
use mathlib.Core.Path.{◌≡◌, refl, ap, subst, ◌∙◌}
use mathlib.Core.Bool.{true, false}
use mathlib.Core.List.{List, ◌∷◌, ◌++◌}
use Prim.Native.Nat.{ℕ, ◌<◌}
use lib.ListN.{get_or, get_or-replicate}
use Rattle.questions.specs.Question.{covers}
use Rattle.letters.specs.Letters.{Heard, U, verdict, unheard, begun, heard_from, standing_after}
use Rattle.letters.specs.Meaning.{None, Last, good_write, decisive, own_value}
use Rattle.letters.specs.declared.Standing.{Standing}
use Rattle.letters.proofs.Entry.{heard, anew, good_write_starts_anew, other_entry_keeps_write, letter_next}
use Rattle.letters.proofs.Appended.{heard_append}
use Rattle.letters.proofs.LastOne.{none_in_parts}

-- a write entry has just been heard
abbrev pub begun_by : Heard → Standing
begun_by write = unheard write.question write.mask

-- ---- entries of which none is a good write

pub write_kept : (s : Standing) {es : List Heard} → None good_write es → anew (heard_from s es) ≡ anew s
unfolding heard_from
write_kept s None.none = refl
write_kept s (None.more e es other n) = write_kept (heard s e) n ∙ other_entry_keeps_write s e other

module _ (a : ℕ) (h : a < 32) (write : Heard) where
  letter_decided : (s : Standing) (e : Heard) → anew s ≡ begun_by write → good_write e ≡ false → decisive write.question a e ≡ true
      → get_or (heard s e).letters a 0 ≡ verdict write.mask (own_value a e) write.question.value
  letter_decided s e same other decides =
      letter_next s e a h other ∙ simp (ap (λ (s : Standing). s.write) same, ap (λ (s : Standing). s.mask) same, decides)

  letter_kept : (s : Standing) {es : List Heard} → anew s ≡ begun_by write → None good_write es → None (decisive write.question a) es
      → get_or (heard_from s es).letters a 0 ≡ get_or s.letters a 0
  unfolding heard_from
  letter_kept s same None.none None.none = refl
  letter_kept s same (None.more e es other others) (None.more _ _ silent silents) =
      letter_kept (heard s e) (other_entry_keeps_write s e other ∙ same) others silents ∙ letter_next s e a h other
      ∙ simp (ap (λ (s : Standing). s.write) same, silent)

  -- the letter that a read decides stands where no read after it decides
  letter_of_last_read : (before : List Heard) (e : Heard) (after : List Heard) → None good_write before → None good_write (e ∷ after)
      → decisive write.question a e ≡ true → None (decisive write.question a) after
      → get_or (heard_from (begun_by write) (before ++ (e ∷ after))).letters a 0 ≡ verdict write.mask (own_value a e) write.question.value
  unfolding heard_from
  letter_of_last_read before e after earlier (None.more _ _ other later) decides silent =
      let s = heard_from (begun_by write) before in
      let same : anew s ≡ begun_by write = write_kept (begun_by write) earlier in
      ap (λ (s : Standing). get_or s.letters a 0) (heard_append (begun_by write) before (e ∷ after))
      ∙ letter_kept (heard s e) (other_entry_keeps_write s e other ∙ same) later silent
      ∙ letter_decided s e same other decides

-- ---- what stands after a good write

pub from_the_write : (before : List Heard) (write : Heard) (after : List Heard) → good_write write ≡ true
    → standing_after (before ++ (write ∷ after)) ≡ heard_from (begun_by write) after
unfolding heard_from
from_the_write before write after good =
    heard_append begun before (write ∷ after)
    ∙ ap (λ (s : Standing). heard_from s after) (good_write_starts_anew (heard_from begun before) write good)

module _ (es : List Heard) (w : Last good_write es) where
  pub since_the_write : standing_after es ≡ heard_from (begun_by w.entry) w.after
  since_the_write = ap standing_after w.whole ∙ from_the_write w.before w.entry w.after w.passes

  -- the same devices are covered
  pub covers_alike : (a : ℕ) → covers (standing_after es).write a ≡ covers w.entry.question a
  covers_alike a =
      ap (λ (s : Standing). covers s.write a) since_the_write
      ∙ ap (λ (s : Standing). covers s.write a) (write_kept (begun_by w.entry) w.last)

  module _ (a : ℕ) (h : a < 32) where
    pub letter_unread : None (decisive w.entry.question a) w.after → get_or (standing_after es).letters a 0 ≡ U
    letter_unread silent =
        ap (λ (s : Standing). get_or s.letters a 0) since_the_write
        ∙ letter_kept a h w.entry (begun_by w.entry) refl w.last silent
        ∙ get_or-replicate 32 a U 0 h

    pub letter_read : (r : Last (decisive w.entry.question a) w.after)
        → get_or (standing_after es).letters a 0 ≡ verdict w.entry.mask (own_value a r.entry) w.entry.question.value
    letter_read r =
        let parts = none_in_parts r.before (subst (None good_write) r.whole w.last) in
        ap (λ (s : Standing). get_or s.letters a 0) (since_the_write ∙ ap (heard_from (begun_by w.entry)) r.whole)
        ∙ letter_of_last_read a h w.entry r.before r.entry r.after parts.0 parts.1 r.passes r.last
