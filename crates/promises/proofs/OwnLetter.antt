-- No device speaks for another: the letters' own law, on what is heard of two jobs. And a good write covers devices of its chain alone: WRITEALL
-- those below n, WRITEDEVICE one below n, and n is 32 at most.
use mathlib.Core.Path.{◌≡◌, refl, sym, ap, ◌∙◌}
use mathlib.Core.Bool.{true, ◌||◌}
use mathlib.Core.Logic.{⊎_elim, inl}
use mathlib.Core.List.{List, []}
use Prim.Native.Nat.{ℕ, ◌<◌, ◌≤◌}
use native.Mathlib.Omega.{arith}
use lib.Dec.{eqb}
use lib.ListN.{get_or}
use borrow.Author.Tests.{eqb-true, ltb-true}
use Rattle.ground.proofs.Test.{and_left, and_right, or_cases}
use Rattle.questions.specs.Question.{write_all, write_device, good_question, covers_at, covers}
use Rattle.questions.specs.declared.question.Question.{Question}
use Rattle.questions.proofs.Good.{good_count, good_device}
use Rattle.letters.specs.Letters.{Heard, is_good_write, standing_after}
use Rattle.letters.specs.Meaning.{shown_masked, Deserves}
use Rattle.letters.proofs.Meaning.{given_is_deserved, deserved_is_given}
use Rattle.letters.proofs.OwnView.{own_view}
use Rattle.promises.specs.Certificate.{DeviceLine, lettered, none}
use Rattle.promises.specs.OwnLetter.{OwnLetter}

-- what a good write covers is a device of its chain
covered_in_chain : (q : Question) → is_good_write q ≡ true → (a : ℕ) → covers q a ≡ true → (a < q.n) × (q.n ≤ 32)
unfolding is_good_write covers
covered_in_chain q write a covered =
    let good = and_right (eqb q.kind write_all || eqb q.kind write_device) (good_question q) write in
    ⊎_elim
    (λ (e : eqb q.kind write_all ≡ true).
    let all = eqb-true q.kind write_all e in
    (ltb-true a q.n (sym (ap (λ (k : ℕ). covers_at k q a) all) ∙ covered), (good_count q good (omega arith)).1))
    (λ (e : eqb q.kind write_device ≡ true).
    let one = eqb-true q.kind write_device e in
    let same = eqb-true a q.device (sym (ap (λ (k : ℕ). covers_at k q a) one) ∙ covered) in
    (omega (arith, good_device q good (inl one)), (good_count q good (omega arith)).1))
    (or_cases (eqb q.kind write_all) (eqb q.kind write_device) (and_left _ (good_question q) write))

covered_below : (q : Question) → is_good_write q ≡ true → (a : ℕ) → covers q a ≡ true → a < 32
covered_below q write a covered = let chain = covered_in_chain q write a covered in omega (arith, chain.0, chain.1)

-- so is what deserves a letter
pub deserving_below : {xs : List Heard} {a letter : ℕ} → Deserves shown_masked xs a letter → a < 32
deserving_below {a = a} due = covered_below due.write.entry.question due.write.passes a due.covered

-- two jobs leave device a covered alike, and with the same letter
abbrev pub SameLetter : (a : ℕ) → (xs xs' : List Heard) → Type 0
SameLetter a xs xs' =
    (covers (standing_after xs).write a ≡ covers (standing_after xs').write a)
    × (get_or (standing_after xs).letters a 0 ≡ get_or (standing_after xs').letters a 0)

-- what is deserved in one is then deserved in the other
deserves_alike : (a v : ℕ) (xs xs' : List Heard) → SameLetter a xs xs' → Deserves shown_masked xs a v → Deserves shown_masked xs' a v
deserves_alike a v xs xs' same due =
    let below = deserving_below due in
    let given = deserved_is_given xs a v below due in
    given_is_deserved xs' a v below (record { covered = sym same.0 ∙ given.covered; stands = sym same.1 ∙ given.stands })

-- a device deserves one letter at most,
one_letter : {xs : List Heard} {a v v' : ℕ} → Deserves shown_masked xs a v → Deserves shown_masked xs a v' → v ≡ v'
one_letter {xs} {a} {v} {v'} due due' =
    let below = deserving_below due in
    sym (deserved_is_given xs a v below due).stands ∙ (deserved_is_given xs a v' below due').stands

-- so that its line is the same wherever it deserves the same
pub same_line : (a : ℕ) (xs xs' : List Heard) → ((v : ℕ) → Deserves shown_masked xs a v → Deserves shown_masked xs' a v) → ((v : ℕ) → Deserves shown_masked xs' a v → Deserves shown_masked xs a v)
    → (l l' : List ℕ) → DeviceLine shown_masked xs a l → DeviceLine shown_masked xs' a l' → l ≡ l'
same_line a xs xs' to back _ _ (lettered v due) (lettered v' due') = let same : v ≡ v' = one_letter (to v due) due' in cc
same_line a xs xs' to back _ _ (lettered v due) (none never) = absurd (never v (to v due))
same_line a xs xs' to back _ _ (none never) (lettered v due) = absurd (never v (back v due))
same_line a xs xs' to back _ _ (none never) (none never') = refl

-- and so wherever two jobs leave it the same letter
pub line_alike : (a : ℕ) (xs xs' : List Heard) → (a < 32 → SameLetter a xs xs')
    → (l l' : List ℕ) → DeviceLine shown_masked xs a l → DeviceLine shown_masked xs' a l' → l ≡ l'
line_alike a xs xs' same =
    same_line a xs xs'
    (λ v due. deserves_alike a v xs xs' (same (deserving_below due)) due)
    (λ v due. let back = same (deserving_below due) in deserves_alike a v xs' xs (sym back.0, sym back.1) due)

pub no_line : (a : ℕ) (xs : List Heard) → ((v : ℕ) → Deserves shown_masked xs a v → ⊥) → (l : List ℕ) → DeviceLine shown_masked xs a l → l ≡ []
no_line a xs never _ (lettered v due) = absurd (never v due)
no_line a xs never _ (none never') = refl

pub own_letter : OwnLetter
own_letter = record {
  own = λ h h' es es' text text' c c' a alike.
      line_alike a c.heard c'.heard (λ below. own_view a below c.heard c'.heard alike)
      (c.line a) (c'.line a) (c.deserved a) (c'.deserved a);
  covered_below = covered_below;
  lettered_below = λ h es text c a above. no_line a c.heard (λ v due. omega (arith, above, deserving_below due)) (c.line a) (c.deserved a);
}
