-- TWO ENTRIES THAT ARE ALIKE FOR A DEVICE, in the bits of the mask that stands, leave alike what the device is told: the write with its mask, and
-- the device's letter.
use mathlib.Core.Path.{◌≡◌, refl, sym, ap, ap₂, ◌∙◌}
use mathlib.Core.Bool.{Bool, true, false, cond, ◌&&◌}
use Prim.Native.Nat.{ℕ, ◌<◌}
use lib.Bits.{bit_and}
use lib.Dec.{eqb}
use lib.ListN.{get_or}
use Rattle.ground.proofs.Test.{and_left, and_right}
use Rattle.questions.specs.declared.question.Question.{Question}
use Rattle.letters.specs.Letters.{Heard, S, O, is_good_write, decides, unheard}
use Rattle.letters.specs.Meaning.{good_write, is_values, decisive, own_value, AlikeIn}
use Rattle.letters.specs.declared.Standing.{Standing}
use Rattle.letters.proofs.Between.{decides_covers}
use Rattle.letters.proofs.Entry.{heard, anew, good_write_starts_anew, other_entry_keeps_write, next_letter, letter_next}

-- two choices by one test, alike where they are taken
chosen_alike : (t t' : Bool) (x x' y y' : ℕ) → t ≡ t' → (t ≡ true → x ≡ x') → y ≡ y' → cond t x y ≡ cond t' x' y'
chosen_alike true t' x x' y y' e taken left = taken refl ∙ ap (λ (t : Bool). cond t x' y') e
chosen_alike false t' x x' y y' e taken left = left ∙ ap (λ (t : Bool). cond t x' y') e

module _ (a : ℕ) where
  -- what device a is told of the standing state
  pub record SameFor (s s' : Standing) : Type 0 where
    pub write : anew s ≡ anew s'
    pub letter : get_or s.letters a 0 ≡ get_or s'.letters a 0

  module _ (s s' : Standing) (same : SameFor s s') (e e' : Heard) (alike : AlikeIn s.mask a e e') where
    next_letter_alike : next_letter s e a ≡ next_letter s' e' a
    next_letter_alike =
        let reads = is_values e.reading in
        let decided = decides s.write e.question a in
        chosen_alike (decisive s.write a e) (decisive s'.write a e') _ _ _ _
        (ap₂ (λ (t u : Bool). t && u) alike.accepted (ap₂ (λ (w : Standing) (q : Question). decides w.write q a) same.write alike.question))
        (λ both.
        let shown = alike.own (and_left reads decided both) (decides_covers s.write e.question a (and_right reads decided both)) in
        ap₂ (λ (bits : ℕ) (w : Standing). cond (eqb bits (bit_and w.write.value w.mask)) S O)
        (shown ∙ ap (λ (w : Standing). bit_and (own_value a e') w.mask) same.write) same.write)
        same.letter

    pub entry_alike : a < 32 → SameFor (heard s e) (heard s' e')
    entry_alike h = by_test (good_write e) refl
      where
        also : (t : Bool) → good_write e ≡ t → good_write e' ≡ t
        also t is = ap is_good_write (sym alike.question) ∙ is

        by_test : (t : Bool) → good_write e ≡ t → SameFor (heard s e) (heard s' e')
        by_test true good =
            let begun : heard s e ≡ heard s' e' =
            good_write_starts_anew s e good ∙ ap₂ unheard alike.question alike.mask ∙ sym (good_write_starts_anew s' e' (also true good)) in
            record { write = ap anew begun; letter = ap (λ (s : Standing). get_or s.letters a 0) begun }
        by_test false other =
            record {
              write = other_entry_keeps_write s e other ∙ same.write ∙ sym (other_entry_keeps_write s' e' (also false other));
              letter = letter_next s e a h other ∙ next_letter_alike ∙ sym (letter_next s' e' a h (also false other));
            }
