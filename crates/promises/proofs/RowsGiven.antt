-- Each row of the reader's table, as document 01 says it, is given exactly where the reader's own test fails.
use mathlib.Core.Path.{◌≡◌, refl, sym, ◌∙◌}
use mathlib.Core.Bool.{Bool, true, false, ◌&&◌, true≢false}
use mathlib.Core.Logic.{◌⊎◌, inl, inr, ⊎_elim}
use mathlib.Core.List.{List, [], ◌∷◌, get_last_d}
use Prim.Native.Nat.{ℕ, zero, suc, ◌+◌, ◌%◌, ◌/◌, ◌-◌, ◌≤◌, ◌<◌}
use native.Mathlib.Nat.{eq-zero-or-pos}
use native.Mathlib.Omega.{arith}
use lib.Dec.{eqb, leb}
use lib.ListN.{length, get_or, take}
use borrow.Author.Tests.{eqb-true, eqb-false, leb-true, leb-false}
use Rattle.ground.proofs.Test.{and_left, and_right, below_or_not}
use Rattle.pec.specs.Pec.{pec_of}
use Rattle.characters.specs.Character.{preamble, stop}
use Rattle.characters.specs.Nibble.{is_nibble}
use Rattle.character_check.specs.Check.{is_character}
use Rattle.scanning.specs.Place.{first_no_character, first_no_nibble}
use Rattle.scanning.specs.Frame.{framed}
use Rattle.std.specs.Prelude.{Some, None}
use Rattle.scanning.proofs.FirstPlace.{at_first, nowhere_passes, characters_along, nibbles_along}
use Rattle.questions.specs.Question.{by_form}
use Rattle.questions.specs.Shape.{shape_of}
use Rattle.questions.specs.Bytes.{write_covered}
use Rattle.questions.specs.declared.question.Question as asked
use Rattle.contents.specs.Rows.{byte_in, value_echoed, echoed, pec_right, alive_right, check_byte, count_right}
use Rattle.contents.proofs.RowLaws as laws
use Rattle.promises.specs.Rows.{echo, check_in, count_in, Lowest}

-- what a test that came out false says of its parts
and_false : (a b : Bool) → (a && b) ≡ false → (a ≡ false) ⊎ (b ≡ false)
and_false true b e = inr e
and_false false b e = inl refl

pub never : {t : Bool} → t ≡ true → t ≡ false → ⊥
never e f = true≢false (sym e ∙ f)

-- ---- 4 CHARACTER and 6 MANCHESTER

module _ (line : List ℕ) where
  pub no_character : (i : ℕ) → first_no_character line ≡ Some i → Lowest is_character line 0 i
  no_character i e =
      let at = at_first is_character line 0 (length line) i (sym (characters_along line) ∙ e) in
      record { from = at.from; below = omega (arith, at.below); fails = at.fails; lower_pass = at.passes }

  pub all_characters : first_no_character line ≡ None → (i : ℕ) × (i < length line) × (is_character (get_or line i 0) ≡ false) → ⊥
  all_characters e (i, below, fails) =
      never (nowhere_passes is_character line 0 (length line) (sym (characters_along line) ∙ e) i (omega arith) (omega arith)) fails

  pub no_nibble : (i : ℕ) → first_no_nibble line ≡ Some i → Lowest is_nibble line 1 i
  no_nibble i e =
      let at = at_first is_nibble line 1 (length line - 2) i (sym (nibbles_along line) ∙ e) in
      record { from = at.from; below = omega (arith, at.below, at.from); fails = at.fails; lower_pass = at.passes }

  pub all_nibbles : first_no_nibble line ≡ None → (i : ℕ) × (1 ≤ i) × (i + 1 < length line) × (is_nibble (get_or line i 0) ≡ false) → ⊥
  all_nibbles e (i, from, below, fails) =
      never (nowhere_passes is_nibble line 1 (length line - 2) (sym (nibbles_along line) ∙ e) i from (omega arith)) fails

-- ---- 5 FRAME

pub bad_frame : (line : List ℕ) → framed line ≡ false → (get_or line 0 0 ≡ preamble → ⊥) ⊎ (get_last_d line 0 ≡ stop → ⊥)
unfolding framed
bad_frame line e =
    ⊎_elim (λ f. inl (eqb-false (get_or line 0 0) preamble f)) (λ f. inr (eqb-false (get_last_d line 0) stop f))
    (and_false (eqb (get_or line 0 0) preamble) (eqb (get_last_d line 0) stop) e)

pub good_frame : (line : List ℕ) → framed line ≡ true → (get_or line 0 0 ≡ preamble → ⊥) ⊎ (get_last_d line 0 ≡ stop → ⊥) → ⊥
unfolding framed
good_frame line e =
    ⊎_elim (λ other. other (eqb-true (get_or line 0 0) preamble (and_left _ _ e)))
    (λ other. other (eqb-true (get_last_d line 0) stop (and_right (eqb (get_or line 0 0) preamble) _ e)))

-- ---- 7 to 11, on the bytes

module _ (q : asked.Question) (bytes : List ℕ) where
  -- 7 ECHO, kind by kind: a byte of those that the answer repeats is another
  abbrev Other : List ℕ → Type 0
  Other repeated = (i : ℕ) × (i < length repeated) × (get_or bytes i 0 ≡ get_or repeated i 0 → ⊥)

  abbrev first : ℕ
  first = (shape_of q).first

  abbrev repeats : ℕ → List ℕ
  repeats k = by_form k (first ∷ 0 ∷ []) (write_covered q) (first ∷ q.reg ∷ [])

  abbrev Repeated : ℕ → Bool
  Repeated k =
      eqb (byte_in bytes 0) first
      && by_form k (eqb (byte_in bytes 1) 0) (eqb (byte_in bytes 1) q.reg && value_echoed q bytes) (eqb (byte_in bytes 1) q.reg)

  bad_two : (second : ℕ) → (eqb (byte_in bytes 0) first && eqb (byte_in bytes 1) second) ≡ false → Other (first ∷ second ∷ [])
  bad_two second e =
      ⊎_elim (λ f. (0, omega arith, eqb-false (byte_in bytes 0) first f)) (λ f. (1, omega arith, eqb-false (byte_in bytes 1) second f))
      (and_false (eqb (byte_in bytes 0) first) (eqb (byte_in bytes 1) second) e)

  bad_four : (eqb (byte_in bytes 0) first && (eqb (byte_in bytes 1) q.reg && value_echoed q bytes)) ≡ false → Other (write_covered q)
  bad_four e =
      ⊎_elim (λ f. (0, omega arith, eqb-false (byte_in bytes 0) first f))
      (λ f. ⊎_elim (λ f. (1, omega arith, eqb-false (byte_in bytes 1) q.reg f))
      (λ f. ⊎_elim (λ f. (2, omega arith, eqb-false (byte_in bytes 2) (q.value % 256) f))
      (λ f. (3, omega arith, eqb-false (byte_in bytes 3) (q.value / 256) f))
      (and_false (eqb (byte_in bytes 2) (q.value % 256)) (eqb (byte_in bytes 3) (q.value / 256)) f))
      (and_false (eqb (byte_in bytes 1) q.reg) (value_echoed q bytes) f))
      (and_false (eqb (byte_in bytes 0) first) (eqb (byte_in bytes 1) q.reg && value_echoed q bytes) e)

  bad_at : (k : ℕ) → Repeated k ≡ false → Other (repeats k)
  bad_at zero e = bad_two 0 e
  bad_at (suc zero) e = bad_four e
  bad_at (suc (suc zero)) e = bad_four e
  bad_at (suc (suc (suc zero))) e = bad_two q.reg e
  bad_at (suc (suc (suc (suc k)))) e = bad_two q.reg e

  good_two : (second : ℕ) → (eqb (byte_in bytes 0) first && eqb (byte_in bytes 1) second) ≡ true → Other (first ∷ second ∷ []) → ⊥
  good_two second e (zero, below, other) = other (eqb-true (byte_in bytes 0) first (and_left _ _ e))
  good_two second e (suc zero, below, other) = other (eqb-true (byte_in bytes 1) second (and_right (eqb (byte_in bytes 0) first) _ e))
  good_two second e (suc (suc i), below, other) = omega arith

  good_four : (eqb (byte_in bytes 0) first && (eqb (byte_in bytes 1) q.reg && value_echoed q bytes)) ≡ true → Other (write_covered q) → ⊥
  good_four e (i, below, other) = at i below other
    where
      rest : (eqb (byte_in bytes 1) q.reg && value_echoed q bytes) ≡ true
      rest = and_right (eqb (byte_in bytes 0) first) _ e

      value : value_echoed q bytes ≡ true
      value = and_right (eqb (byte_in bytes 1) q.reg) _ rest

      at : (i : ℕ) → i < 4 → (get_or bytes i 0 ≡ get_or (write_covered q) i 0 → ⊥) → ⊥
      at zero below other = other (eqb-true (byte_in bytes 0) first (and_left _ _ e))
      at (suc zero) below other = other (eqb-true (byte_in bytes 1) q.reg (and_left _ _ rest))
      at (suc (suc zero)) below other = other (eqb-true (byte_in bytes 2) (q.value % 256) (and_left _ _ value))
      at (suc (suc (suc zero))) below other = other (eqb-true (byte_in bytes 3) (q.value / 256) (and_right (eqb (byte_in bytes 2) (q.value % 256)) _ value))
      at (suc (suc (suc (suc i)))) below other = omega arith

  good_at : (k : ℕ) → Repeated k ≡ true → Other (repeats k) → ⊥
  good_at zero e = good_two 0 e
  good_at (suc zero) e = good_four e
  good_at (suc (suc zero)) e = good_four e
  good_at (suc (suc (suc zero))) e = good_two q.reg e
  good_at (suc (suc (suc (suc k)))) e = good_two q.reg e

  pub bad_echo : echoed q bytes ≡ false → (i : ℕ) × (i < length (echo q)) × (get_or bytes i 0 ≡ get_or (echo q) i 0 → ⊥)
  unfolding echoed
  bad_echo e = bad_at q.kind e

  pub good_echo : echoed q bytes ≡ true → (i : ℕ) × (i < length (echo q)) × (get_or bytes i 0 ≡ get_or (echo q) i 0 → ⊥) → ⊥
  unfolding echoed
  good_echo e = good_at q.kind e

  abbrev pub WrongPec : Type 0
  WrongPec = (1 ≤ q.kind) × (byte_in bytes (shape_of q).covered ≡ pec_of (take (shape_of q).covered bytes) → ⊥)

  pub bad_pec : pec_right q bytes ≡ false → WrongPec
  bad_pec e =
      ⊎_elim (λ hello. absurd (never (sym (laws.hello_pec q bytes hello)) e))
      (λ lo. (lo, eqb-false (byte_in bytes (shape_of q).covered) (pec_of (take (shape_of q).covered bytes)) (laws.other_pec q bytes lo ∙ e)))
      (eq-zero-or-pos q.kind)

  pub good_pec : pec_right q bytes ≡ true → WrongPec → ⊥
  good_pec e (lo, wrong) =
      wrong (eqb-true (byte_in bytes (shape_of q).covered) (pec_of (take (shape_of q).covered bytes)) (laws.other_pec q bytes lo ∙ e))

  abbrev pub alive_byte : ℕ
  alive_byte = byte_in bytes ((shape_of q).covered + 1)

  abbrev pub alive_due : ℕ
  alive_due = (q.seed + (shape_of q).acting) % 256

  pub bad_alive : alive_right q bytes ≡ false → (1 ≤ q.kind) × (q.alive ≡ 1) × (alive_byte ≡ alive_due → ⊥)
  bad_alive e =
      ⊎_elim (λ hello. absurd (never (sym (laws.hello_alive q bytes hello)) e))
      (λ lo. by_test lo (eqb q.alive 1) refl) (eq-zero-or-pos q.kind)
    where
      by_test : 1 ≤ q.kind → (t : Bool) → eqb q.alive 1 ≡ t → (1 ≤ q.kind) × (q.alive ≡ 1) × (alive_byte ≡ alive_due → ⊥)
      by_test lo true f =
          let on = eqb-true q.alive 1 f in
          (lo, on, eqb-false alive_byte alive_due (laws.some_alive q bytes lo on ∙ e))
      by_test lo false f = absurd (never (sym (laws.no_alive q bytes lo (eqb-false q.alive 1 f))) e)

  pub good_alive_byte : alive_right q bytes ≡ true → (1 ≤ q.kind) × (q.alive ≡ 1) × (alive_byte ≡ alive_due → ⊥) → ⊥
  good_alive_byte e (lo, on, wrong) = wrong (eqb-true alive_byte alive_due (laws.some_alive q bytes lo on ∙ e))

  pub bad_check : eqb (check_byte q bytes) 0 ≡ false → (3 ≤ q.kind) × (check_in q bytes ≡ 0 → ⊥)
  bad_check e =
      let other = eqb-false (check_byte q bytes) 0 e in
      ⊎_elim (λ (low : q.kind < 3). absurd (other (sym (laws.no_check q bytes (omega arith)))))
      (λ lo. (lo, λ is. other (sym (laws.read_check q bytes lo) ∙ is))) (below_or_not q.kind 3)

  pub good_check : eqb (check_byte q bytes) 0 ≡ true → (3 ≤ q.kind) × (check_in q bytes ≡ 0 → ⊥) → ⊥
  good_check e (lo, other) = other (laws.read_check q bytes lo ∙ eqb-true (check_byte q bytes) 0 e)

  -- a byte that CHECK tells is the one that stands there
  pub told_check : eqb (check_byte q bytes) 0 ≡ false → check_byte q bytes ≡ check_in q bytes
  told_check e = sym (laws.read_check q bytes (bad_check e).0)

  pub bad_count : count_right q bytes ≡ false → (q.kind ≡ 0) × ((count_in bytes ≡ 0) ⊎ (32 < count_in bytes))
  bad_count e =
      ⊎_elim
      (λ hello. (
        hello,
        ⊎_elim (λ low. inl (omega (arith, leb-false 1 (byte_in bytes 2) low))) (λ high. inr (leb-false (byte_in bytes 2) 32 high))
            (and_false (leb 1 (byte_in bytes 2)) (leb (byte_in bytes 2) 32) (laws.hello_count q bytes hello ∙ e)),
      ))
      (λ lo. absurd (never (sym (laws.no_count q bytes lo)) e)) (eq-zero-or-pos q.kind)

  pub good_count_byte : count_right q bytes ≡ true → (q.kind ≡ 0) × ((count_in bytes ≡ 0) ⊎ (32 < count_in bytes)) → ⊥
  good_count_byte e (hello, out) =
      let right = laws.hello_count q bytes hello ∙ e in
      let least = leb-true 1 (byte_in bytes 2) (and_left _ _ right) in
      let most = leb-true (byte_in bytes 2) 32 (and_right (leb 1 (byte_in bytes 2)) _ right) in
      ⊎_elim (λ none. omega arith) (λ over. omega arith) out
