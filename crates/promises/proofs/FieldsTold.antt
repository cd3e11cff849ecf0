-- What is told of a question that row 1 turns away is true: the field that is named breaks its own clause, and those before it keep theirs.
use mathlib.Core.Path.{◌≡◌, refl, sym, ap₂, subst}
use mathlib.Core.Bool.{Bool, true, false, cond, ◌&&◌, ◌||◌, not}
use mathlib.Core.Logic.{◌⊎◌, inl, inr, ⊎_elim}
use mathlib.Core.List.{List}
use Prim.Native.Nat.{ℕ, zero, suc, ◌≤◌, ◌<◌}
use native.Mathlib.Nat.{eq-zero-or-pos}
use native.Mathlib.Omega.{arith}
use lib.Dec.{eqb, leb, ltb}
use borrow.Author.Tests.{eqb-true, eqb-false, eq-eqb, ne_eqb, leb-true, leb-false, le-leb, lt-ltb}
use Rattle.std.specs.Prelude.{Some, None}
use Rattle.ground.proofs.Test.{and_left, and_right, or_left, or_right, below_or_not}
use Rattle.questions.specs.Question.{good_chain, good_question}
use Rattle.questions.specs.declared.question.Question as asked
use Rattle.readings.specs.Reading.{refusal_number}
use Rattle.readings.specs.declared.Refusal.{Refusal}
use Rattle.readings.specs.declared.Refusal.TheVariants.{Question}
use Rattle.reasons.specs.Reason.{bad_field, device_right, at_field}
use Rattle.reasons.specs.declared.Field.{Field}
use Rattle.reasons.specs.declared.Field.TheVariants as field
use Rattle.promises.specs.TellMeWhy.{Asks, Passes, Only, Told}
use Rattle.promises.proofs.RowsGiven.{never}

-- the kinds that name a device
abbrev Named : ℕ → Type 0
Named k = (k ≡ 2) ⊎ (k ≡ 4)

named_or_not : (k : ℕ) → Named k ⊎ (Named k → ⊥)
named_or_not k = by_tests (eqb k 2) (eqb k 4) refl refl
  where
    by_tests : (t u : Bool) → eqb k 2 ≡ t → eqb k 4 ≡ u → Named k ⊎ (Named k → ⊥)
    by_tests true u e f = inl (inl (eqb-true k 2 e))
    by_tests false true e f = inl (inr (eqb-true k 4 f))
    by_tests false false e f = inr (λ is. ⊎_elim (eqb-false k 2 e) (eqb-false k 4 f) is)

-- ---- a question whose clauses are all kept is good

device_kept : (q : asked.Question) → (Named q.kind → q.device < q.n) → (not (eqb q.kind 2 || eqb q.kind 4) || ltb q.device q.n) ≡ true
device_kept q below = ⊎_elim by_device (λ other. none (λ e. other (inl e)) (λ e. other (inr e))) (named_or_not q.kind)
  where
    by_device : Named q.kind → (not (eqb q.kind 2 || eqb q.kind 4) || ltb q.device q.n) ≡ true
    by_device is = or_right (not (eqb q.kind 2 || eqb q.kind 4)) (ltb q.device q.n) (lt-ltb q.device q.n (below is))

    none : (q.kind ≡ 2 → ⊥) → (q.kind ≡ 4 → ⊥) → (not (eqb q.kind 2 || eqb q.kind 4) || ltb q.device q.n) ≡ true
    none a b = simp (ne_eqb q.kind 2 a, ne_eqb q.kind 4 b)

module _ (q : asked.Question) (line : List ℕ) where
  chain_kept : 1 ≤ q.kind → Passes q line Question 2 → Passes q line Question 3 → good_chain q ≡ true
  unfolding good_chain
  chain_kept some devices device =
      ap₂ ◌&&◌ (ap₂ ◌&&◌ (le-leb 1 q.n (devices some).0) (le-leb q.n 32 (devices some).1)) (device_kept q device)

  all_kept : Passes q line Question 0 → Passes q line Question 1 → Passes q line Question 2 → Passes q line Question 3 → good_question q ≡ true
  unfolding good_question
  all_kept kind alive devices device =
      ap₂ ◌&&◌ (ap₂ ◌&&◌ (le-leb q.kind 4 kind) (le-leb q.alive 1 alive)) (⊎_elim hello other (eq-zero-or-pos q.kind))
    where
      hello : q.kind ≡ 0 → (eqb q.kind 0 || good_chain q) ≡ true
      hello e = or_left (eqb q.kind 0) (good_chain q) (eq-eqb q.kind 0 e)

      other : 1 ≤ q.kind → (eqb q.kind 0 || good_chain q) ≡ true
      other some = or_right (eqb q.kind 0) (good_chain q) (chain_kept some devices device)

-- ---- each field that can be named

module _ (q : asked.Question) (line : List ℕ) (bad : good_question q ≡ false)
    (early : (why : Refusal) → refusal_number why < 1 → (i : ℕ) → Passes q line why i) where
  told_kind : 4 < q.kind → Told q line (at_field q field.Kind)
  told_kind over =
      record {
        place = 0;
        spot = refl;
        stood = refl;
        fails = λ few. omega arith;
        lower_pass = λ i h. absurd (omega arith);
        earlier_pass = early;
        right = (0, 1, omega arith, omega arith, omega arith);
      }

  told_alive : Passes q line Question 0 → 1 < q.alive → Told q line (at_field q field.Alive)
  told_alive kind over =
      record {
        place = 1;
        spot = refl;
        stood = refl;
        fails = λ few. omega arith;
        lower_pass = lower;
        earlier_pass = early;
        right = (0, 1, omega arith, omega arith, omega arith);
      }
    where
      lower : (i : ℕ) → i < 1 → Passes q line Question i
      lower zero h = kind
      lower (suc i) h = absurd (omega arith)

  module _ (kind : Passes q line Question 0) (alive : Passes q line Question 1) where
    -- HELLOALL would be good, whatever n and device
    looks_at_n : 1 ≤ q.kind
    looks_at_n =
        ⊎_elim (λ (hello : q.kind ≡ 0). absurd (never (all_kept q line kind alive (λ some. absurd (omega arith))
        (λ is. ⊎_elim (λ e. absurd (omega arith)) (λ e. absurd (omega arith)) is)) bad))
        (λ some. some) (eq-zero-or-pos q.kind)

    told_devices : ((1 ≤ q.n) × (q.n ≤ 32) → ⊥) → Told q line (at_field q field.Devices)
    told_devices out =
        record {
          place = 2;
          spot = refl;
          stood = refl;
          fails = λ within. out (within looks_at_n);
          lower_pass = lower;
          earlier_pass = early;
          right = (1, 2, omega arith, λ some. (omega arith, omega arith), λ some. (omega arith, omega arith));
        }
      where
        lower : (i : ℕ) → i < 2 → Passes q line Question i
        lower zero h = kind
        lower (suc zero) h = alive
        lower (suc (suc i)) h = absurd (omega arith)

    module _ (within : (1 ≤ q.n) × (q.n ≤ 32)) where
      broken : Passes q line Question 3 → ⊥
      broken device = never (all_kept q line kind alive (λ some. within) device) bad

      names : Named q.kind
      names = ⊎_elim (λ is. is) (λ other. absurd (broken (λ is. absurd (other is)))) (named_or_not q.kind)

      abbrev Choice : Bool → Type 0
      Choice t = Only (Asks q line Question 3) (cond t (Some 0) None)

      one : q.n ≡ 1 → Choice true
      one e = (λ is. omega arith, λ other below. let under = below names in omega arith)

      more : (q.n ≡ 1 → ⊥) → Choice false
      more e =
          let two : 2 ≤ q.n = ⊎_elim (λ (few : q.n < 2). absurd (e (omega (arith, within.0)))) (λ many. many) (below_or_not q.n 2) in
          (0, 1, omega arith, λ is. omega arith, λ is. omega arith)

      only : Only (Asks q line Question 3) (device_right q)
      only = by_n (eqb q.n 1) refl
        where
          by_n : (t : Bool) → eqb q.n 1 ≡ t → Choice (eqb q.n 1)
          by_n true e = subst Choice (sym e) (one (eqb-true q.n 1 e))
          by_n false e = subst Choice (sym e) (more (eqb-false q.n 1 e))

      told_device : Told q line (at_field q field.Device)
      told_device =
          record { place = 3; spot = refl; stood = refl; fails = broken; lower_pass = lower; earlier_pass = early; right = only }
        where
          lower : (i : ℕ) → i < 3 → Passes q line Question i
          lower zero h = kind
          lower (suc zero) h = alive
          lower (suc (suc zero)) h = λ some. within
          lower (suc (suc (suc i))) h = absurd (omega arith)

  -- ---- the one that is

  abbrev inside : Bool
  inside = leb 1 q.n && leb q.n 32

  is_inside : inside ≡ true → (1 ≤ q.n) × (q.n ≤ 32)
  is_inside e = (leb-true 1 q.n (and_left _ _ e), leb-true q.n 32 (and_right (leb 1 q.n) _ e))

  -- the field by the three tests before the device
  abbrev picked : (kind alive n : Bool) → Field
  picked kind alive n = cond kind (cond alive (cond n field.Device field.Devices) field.Alive) field.Kind

  by_tests : (t u v : Bool) → leb q.kind 4 ≡ t → leb q.alive 1 ≡ u → inside ≡ v → Told q line (at_field q (picked t u v))
  by_tests false u v kind alive n = told_kind (leb-false q.kind 4 kind)
  by_tests true false v kind alive n = told_alive (leb-true q.kind 4 kind) (leb-false q.alive 1 alive)
  by_tests true true false kind alive n =
      told_devices (leb-true q.kind 4 kind) (leb-true q.alive 1 alive)
      (λ within. never (ap₂ ◌&&◌ (le-leb 1 q.n within.0) (le-leb q.n 32 within.1)) n)
  by_tests true true true kind alive n = told_device (leb-true q.kind 4 kind) (leb-true q.alive 1 alive) (is_inside n)

  pub told_field : Told q line (at_field q (bad_field q))
  told_field = by_tests (leb q.kind 4) (leb q.alive 1) inside refl refl refl
