-- ONLY MASKED BITS DECIDE (document 02, M-100). Reads after the last good write that agree in the bits of its mask leave a device the same letter.
-- Where the mask is FFFFh, as for every write of a version 1 file, masked bits show what was written exactly where all sixteen do; and a letter
-- that is deserved by one meaning of 'shown' is deserved by another that agrees with it on what was read.
use mathlib.Core.Path.{◌≡◌, refl, sym, ap, subst, ◌∙◌}
use mathlib.Core.Bool.{Bool}
use mathlib.Core.List.{List, ◌∷◌, ◌++◌, Forall₂}
use Prim.Native.Nat.{ℕ, ◌%◌, ◌<◌}
use native.Mathlib.Omega.{arith}
use lib.Bits.{bit_and, and_mask}
use lib.ListN.{get_or}
use Rattle.questions.specs.Question.{covers}
use Rattle.masks.specs.Masks.{all_bits}
use Rattle.letters.specs.Letters.{Heard, heard_from, standing_after}
use Rattle.letters.specs.Meaning.{None, Last, good_write, decisive, own_value, shown_masked, shown_whole, Decided, holds, differs, unread, Deserves, AlikeIn}
use Rattle.letters.specs.declared.Standing.{Standing}
use Rattle.letters.proofs.Entry.{heard, other_entry_keeps_write}
use Rattle.letters.proofs.SinceTheWrite.{begun_by, from_the_write, since_the_write}
use Rattle.letters.proofs.AlikeEntries.{SameFor, entry_alike}

-- ---- reads that agree in the masked bits

module _ (a : ℕ) (h : a < 32) where
  -- the mask stays the same as long as no good write comes
  since_alike : (s s' : Standing) → SameFor a s s' → {es es' : List Heard} → None good_write es → Forall₂ (AlikeIn s.mask a) es es'
      → SameFor a (heard_from s es) (heard_from s' es')
  unfolding heard_from
  since_alike s s' same None.none Forall₂.nil = same
  since_alike s s' same (None.more e es other n) (Forall₂.cons {b = e'} {l₂ = es'} alike rest) =
      let kept = ap (λ (s : Standing). s.mask) (other_entry_keeps_write s e other) in
      since_alike (heard s e) (heard s' e') (entry_alike a s s' same e e' alike h) n
      (subst (λ (mask : ℕ). Forall₂ (AlikeIn mask a) es es') (sym kept) rest)

  pub same_in_masked_bits : (es : List Heard) (w : Last good_write es) (before after : List Heard) → Forall₂ (AlikeIn w.entry.mask a) w.after after
      → (covers (standing_after es).write a ≡ covers (standing_after (before ++ (w.entry ∷ after))).write a)
      × (get_or (standing_after es).letters a 0 ≡ get_or (standing_after (before ++ (w.entry ∷ after))).letters a 0)
  same_in_masked_bits es w before after alike =
      let start = begun_by w.entry in
      let same = since_alike start start record { write = refl; letter = refl } w.last alike in
      let one = since_the_write es w in
      let other = from_the_write before w.entry after w.passes in
      let covered : Standing → Bool = λ s. covers s.write a in
      let letter : Standing → ℕ = λ s. get_or s.letters a 0 in
      (ap covered one ∙ ap covered same.write ∙ sym (ap covered other), ap letter one ∙ same.letter ∙ sym (ap letter other))

-- ---- all sixteen bits

whole_by_mask : (v w : ℕ) → v < 65536 → w < 65536 → bit_and v all_bits ≡ bit_and w all_bits → v ≡ w
whole_by_mask v w small small' same = let rest : v % 65536 ≡ w % 65536 = sym (and_mask v 16) ∙ same ∙ and_mask w 16 in omega arith

-- a write whose mask is FFFFh is shown in its masked bits exactly where it is shown in all sixteen
pub all_bits_are_whole : (write : Heard) (value : ℕ) → write.mask ≡ all_bits → value < 65536 → write.question.value < 65536
    → (shown_masked write value → shown_whole write value) × (shown_whole write value → shown_masked write value)
all_bits_are_whole write value all small written = (
  λ same. whole_by_mask value write.question.value small written (subst (λ (mask : ℕ). bit_and value mask ≡ bit_and write.question.value mask) all same),
  λ same. ap (λ (v : ℕ). bit_and v write.mask) same,
)

-- a letter is deserved by either of two meanings of 'shown' where they agree on what was written and the read that decides
pub deserves_by : (Shown Shown' : (write : Heard) → (value : ℕ) → Type 0) (es : List Heard) (a letter : ℕ)
    → ((w : Last good_write es) (r : Last (decisive w.entry.question a) w.after)
    → (Shown w.entry (own_value a r.entry) → Shown' w.entry (own_value a r.entry))
    × (Shown' w.entry (own_value a r.entry) → Shown w.entry (own_value a r.entry)))
    → Deserves Shown es a letter → Deserves Shown' es a letter
deserves_by Shown Shown' es a letter agree due = record { write = due.write; covered = due.covered; decided = decided letter due.decided }
  where
    decided : (letter : ℕ) → Decided Shown due.write.entry a due.write.after letter → Decided Shown' due.write.entry a due.write.after letter
    decided _ (holds r shown) = holds r ((agree due.write r).0 shown)
    decided _ (differs r other) = differs r (λ shown. other ((agree due.write r).1 shown))
    decided _ (unread silent) = unread silent
