-- THE MEANING OF A LETTER. The certificate gives a device a letter exactly where the device deserves it: the last good write covers the
-- device, and of the accepted reads of that register that come after it and cover the device the latest holds, in the bits of the write's mask,
-- the value written (S) or another (O), or there is none (U). Where no good write was heard no device has a letter.
use mathlib.Core.Path.{◌≡◌, refl, sym, ap, subst, ◌∙◌}
use mathlib.Core.Bool.{Bool, true, false, cond, false≢true}
use mathlib.Core.Logic.{⊎_elim}
use mathlib.Core.List.{List}
use Prim.Native.Nat.{ℕ, ◌<◌}
use lib.Bits.{bit_and}
use lib.Dec.{eqb}
use lib.ListN.{get_or}
use borrow.Author.Tests.{eqb-true, eqb-false, eq-eqb, ne_eqb}
use Rattle.questions.specs.Question.{covers}
use Rattle.letters.specs.Letters.{Heard, S, O, begun, standing_after}
use Rattle.letters.specs.Meaning.{None, Last, good_write, decisive, own_value, shown_masked, Decided, holds, differs, unread, Deserves, Given}
use Rattle.letters.specs.declared.Standing.{Standing}
use Rattle.letters.proofs.LastOne.{search_last}
use Rattle.letters.proofs.SinceTheWrite.{write_kept, covers_alike, letter_unread, letter_read}

pub no_write_no_letter : (es : List Heard) → None good_write es → (a : ℕ) → covers (standing_after es).write a ≡ false
unfolding covers
no_write_no_letter es silent a = ap (λ (s : Standing). covers s.write a) (write_kept begun silent)

pub given_is_deserved : (es : List Heard) (a letter : ℕ) → a < 32 → Given es a letter → Deserves shown_masked es a letter
given_is_deserved es a letter h given =
    ⊎_elim
    (λ silent. absurd (false≢true (sym (no_write_no_letter es silent a) ∙ given.covered)))
    (λ w. subst (Deserves shown_masked es a) given.stands (deserved w))
    (search_last good_write es)
  where
    deserved : (w : Last good_write es) → Deserves shown_masked es a (get_or (standing_after es).letters a 0)
    deserved w = ⊎_elim by_silence by_read (search_last (decisive w.entry.question a) w.after)
      where
        covered : covers w.entry.question a ≡ true
        covered = sym (covers_alike es w a) ∙ given.covered

        deserves : {letter : ℕ} → Decided shown_masked w.entry a w.after letter → Deserves shown_masked es a letter
        deserves decided = record { write = w; covered = covered; decided = decided }

        by_silence : None (decisive w.entry.question a) w.after → Deserves shown_masked es a (get_or (standing_after es).letters a 0)
        by_silence silent = subst (Deserves shown_masked es a) (sym (letter_unread es w a h silent)) (deserves (unread silent))

        by_read : Last (decisive w.entry.question a) w.after → Deserves shown_masked es a (get_or (standing_after es).letters a 0)
        by_read r = subst (Deserves shown_masked es a) (sym (letter_read es w a h r)) (by_bits (eqb shown written) refl)
          where
            shown : ℕ
            shown = bit_and (own_value a r.entry) w.entry.mask

            written : ℕ
            written = bit_and w.entry.question.value w.entry.mask

            by_bits : (t : Bool) → eqb shown written ≡ t → Deserves shown_masked es a (cond t S O)
            by_bits true same = deserves (holds r (eqb-true shown written same))
            by_bits false other = deserves (differs r (eqb-false shown written other))

pub deserved_is_given : (es : List Heard) (a letter : ℕ) → a < 32 → Deserves shown_masked es a letter → Given es a letter
deserved_is_given es a letter h due = record { covered = covers_alike es due.write a ∙ due.covered; stands = stands letter due.decided }
  where
    stands : (letter : ℕ) → Decided shown_masked due.write.entry a due.write.after letter → get_or (standing_after es).letters a 0 ≡ letter
    stands _ (holds r same) = letter_read es due.write a h r ∙ ap (λ (t : Bool). cond t S O) (eq-eqb _ _ same)
    stands _ (differs r other) = letter_read es due.write a h r ∙ ap (λ (t : Bool). cond t S O) (ne_eqb _ _ other)
    stands _ (unread silent) = letter_unread es due.write a h silent
