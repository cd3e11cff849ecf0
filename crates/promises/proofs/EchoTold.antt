-- What is told of row 7 is true: the byte that is named is the lowest of those that the answer repeats which is not as asked.
use mathlib.Core.Path.{◌≡◌, refl, sym, ap, ◌∙◌, subst}
use mathlib.Core.Bool.{Bool, true, false, cond}
use mathlib.Core.Logic.{⊎_elim}
use mathlib.Core.List.{List, [], ◌∷◌}
use Prim.Native.Nat.{ℕ, zero, suc, ◌/◌, ◌%◌, ◌≤◌, ◌<◌}
use native.Mathlib.Nat.{eq-zero-or-pos}
use native.Mathlib.Omega.{arith}
use lib.ListN.{length, get_or}
use borrow.Author.Tests.{eqb-true, eqb-false}
use Rattle.std.specs.Prelude.{Some}
use Rattle.ground.proofs.Test.{below_or_not, refuted}
use Rattle.lines.specs.Line.{byte_at, bytes_of}
use Rattle.lines.proofs.Line.{byte_count, bytes_at}
use Rattle.questions.specs.Question.{by_form}
use Rattle.questions.specs.Shape.{shape_of}
use Rattle.questions.specs.declared.question.Question as asked
use Rattle.questions.proofs.Good.{hello_shape, write_shape, read_shape}
use Rattle.readings.specs.declared.Refusal.TheVariants.{Echo}
use Rattle.reasons.specs.Reason.{at_byte, asked_byte, as_asked, at_echo}
use Rattle.promises.specs.Rows.{echo}
use Rattle.promises.specs.TellMeWhy.{Told}
use Rattle.promises.proofs.SpotsTold.{Early}

-- ---- what an answer repeats, two bytes or four, of a list of four

two : (a b c d i : ℕ) → i < 2 → get_or (a ∷ b ∷ c ∷ []) i d ≡ get_or (a ∷ b ∷ []) i 0
two a b c d zero h = refl
two a b c d (suc zero) h = refl
two a b c d (suc (suc i)) h = absurd (omega arith)

four : (a b c d i : ℕ) → i < 4 → get_or (a ∷ b ∷ c ∷ []) i d ≡ get_or (a ∷ b ∷ c ∷ d ∷ []) i 0
four a b c d zero h = refl
four a b c d (suc zero) h = refl
four a b c d (suc (suc zero)) h = refl
four a b c d (suc (suc (suc zero))) h = refl
four a b c d (suc (suc (suc (suc i)))) h = absurd (omega arith)

module _ (q : asked.Question) where
  abbrev first : ℕ
  first = (shape_of q).first

  abbrev low : ℕ
  low = q.value % 256

  abbrev high : ℕ
  high = q.value / 256

  -- by the kind: the bytes, and how many there are
  record Repeats (k : ℕ) (bytes : List ℕ) : Type 0 where
    at : (i : ℕ) → i < length bytes → get_or (first ∷ by_form k 0 q.reg q.reg ∷ low ∷ []) i high ≡ get_or bytes i 0
    some : 2 ≤ length bytes
    most : length bytes ≤ 4
    writes : 2 < length bytes → (1 ≤ k) × (k ≤ 2) × (length bytes ≡ 4)

  repeats_at : (k : ℕ) → Repeats k (by_form k (first ∷ 0 ∷ []) (first ∷ q.reg ∷ low ∷ high ∷ []) (first ∷ q.reg ∷ []))
  repeats_at zero = record { at = two first 0 low high; some = omega arith; most = omega arith; writes = λ h. absurd (omega arith) }
  repeats_at (suc zero) =
      record { at = four first q.reg low high; some = omega arith; most = omega arith; writes = λ h. (omega arith, omega arith, refl) }
  repeats_at (suc (suc zero)) =
      record { at = four first q.reg low high; some = omega arith; most = omega arith; writes = λ h. (omega arith, omega arith, refl) }
  repeats_at (suc (suc (suc zero))) =
      record { at = two first q.reg low high; some = omega arith; most = omega arith; writes = λ h. absurd (omega arith) }
  repeats_at (suc (suc (suc (suc k)))) =
      record { at = two first q.reg low high; some = omega arith; most = omega arith; writes = λ h. absurd (omega arith) }

  repeats : Repeats q.kind (echo q)
  repeats = repeats_at q.kind

-- ---- on a line that has the answer's length

module _ (q : asked.Question) (line : List ℕ) (fits : length line ≡ (shape_of q).words) (early : Early q line Echo) where
  -- the line has the bytes that are repeated
  has : (i : ℕ) → i < length (echo q) → i < byte_count line
  has i inside =
      ⊎_elim
      (λ hello. omega (arith, fits, ap (λ s. s.words) (hello_shape q hello), few (λ w. omega (arith, w.0))))
      (λ some. ⊎_elim
      (λ (low : q.kind < 3). omega (arith, fits, (write_shape q some (omega arith)).words, (repeats q).most))
      (λ high. omega (arith, fits, (read_shape q high).words, few (λ w. omega (arith, w.1)))) (below_or_not q.kind 3))
      (eq-zero-or-pos q.kind)
    where
      few : ((1 ≤ q.kind) × (q.kind ≤ 2) × (length (echo q) ≡ 4) → ⊥) → length (echo q) ≤ 2
      few none = ⊎_elim (λ more. absurd (none ((repeats q).writes more))) (λ is. is) (below_or_not 2 (length (echo q)))

  same : (i : ℕ) → i < length (echo q) → as_asked q line i ≡ true → get_or (bytes_of line) i 0 ≡ get_or (echo q) i 0
  same i inside e = bytes_at line i (has i inside) ∙ eqb-true (byte_at line i) (asked_byte q i) e ∙ (repeats q).at i inside

  told_at : (p : ℕ) → p < length (echo q) → as_asked q line p ≡ false → ((j : ℕ) → j < p → as_asked q line j ≡ true)
      → Told q line (at_byte line Echo p (Some (asked_byte q p)))
  told_at p inside wrong right =
      let byte = bytes_at line p (has p inside) in
      record {
        place = p;
        spot = refl;
        stood = sym byte;
        fails = λ pass. eqb-false (byte_at line p) (asked_byte q p) wrong (sym byte ∙ pass inside ∙ sym ((repeats q).at p inside));
        lower_pass = λ j below within. same j within (right j below);
        earlier_pass = early;
        right = (λ within. (repeats q).at p inside, λ x pass. pass inside ∙ sym ((repeats q).at p inside));
      }

  module _ (i : ℕ) (inside : i < length (echo q)) (other : get_or (bytes_of line) i 0 ≡ get_or (echo q) i 0 → ⊥) where
    -- where those below a place are as asked, the wrong one is not below it
    beyond : (n : ℕ) → ((j : ℕ) → j < n → as_asked q line j ≡ true) → n ≤ i
    beyond n right = ⊎_elim (λ few. absurd (other (same i inside (right i few)))) (λ is. is) (below_or_not i n)

    below_1 : as_asked q line 0 ≡ true → (j : ℕ) → j < 1 → as_asked q line j ≡ true
    below_1 a zero h = a
    below_1 a (suc j) h = absurd (omega arith)

    below_2 : as_asked q line 0 ≡ true → as_asked q line 1 ≡ true → (j : ℕ) → j < 2 → as_asked q line j ≡ true
    below_2 a b zero h = a
    below_2 a b (suc zero) h = b
    below_2 a b (suc (suc j)) h = absurd (omega arith)

    below_3 : as_asked q line 0 ≡ true → as_asked q line 1 ≡ true → as_asked q line 2 ≡ true → (j : ℕ) → j < 3 → as_asked q line j ≡ true
    below_3 a b c zero h = a
    below_3 a b c (suc zero) h = b
    below_3 a b c (suc (suc zero)) h = c
    below_3 a b c (suc (suc (suc j))) h = absurd (omega arith)

    abbrev picked : (t u v : Bool) → ℕ
    picked t u v = cond t (cond u (cond v 3 2) 1) 0

    abbrev Tells : ℕ → Type 0
    Tells p = Told q line (at_byte line Echo p (Some (asked_byte q p)))

    -- the fourth is the wrong one where the others are right
    fourth_wrong : ((j : ℕ) → j < 3 → as_asked q line j ≡ true) → as_asked q line 3 ≡ false
    fourth_wrong right =
        let fourth : i ≡ 3 = omega (arith, beyond 3 right, (repeats q).most) in
        refuted (as_asked q line 3) (λ e. other (same i inside (subst (λ (k : ℕ). as_asked q line k ≡ true) (sym fourth) e)))

    by_tests : (t u v : Bool) → as_asked q line 0 ≡ t → as_asked q line 1 ≡ u → as_asked q line 2 ≡ v → Tells (picked t u v)
    by_tests false u v a b c = told_at 0 (omega (arith, (repeats q).some)) a (λ j h. absurd (omega arith))
    by_tests true false v a b c = told_at 1 (omega (arith, (repeats q).some)) b (below_1 a)
    by_tests true true false a b c = told_at 2 (omega (arith, beyond 2 (below_2 a b))) c (below_2 a b)
    by_tests true true true a b c =
        told_at 3 (omega (arith, beyond 3 (below_3 a b c))) (fourth_wrong (below_3 a b c)) (below_3 a b c)

    pub told_echo : Told q line (at_echo q line)
    told_echo = by_tests (as_asked q line 0) (as_asked q line 1) (as_asked q line 2) refl refl refl
