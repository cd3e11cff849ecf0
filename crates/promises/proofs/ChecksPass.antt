-- A row that is not given passes at every spot that it looks at.
use mathlib.Core.Path.{◌≡◌, refl, sym, ap, ◌∙◌, subst}
use mathlib.Core.Bool.{Bool, true, false}
use mathlib.Core.Logic.{◌⊎◌, inl, inr, ⊎_elim}
use mathlib.Core.List.{List, get_last_d}
use Prim.Native.Nat.{ℕ, zero, suc, ◌+◌, ◌-◌, ◌%◌, ◌≤◌, ◌<◌}
use native.Mathlib.Nat.{eq-zero-or-pos}
use native.Mathlib.Omega.{arith}
use lib.Dec.{eqb}
use lib.ListN.{length, get_or, take}
use borrow.Author.Tests.{eqb-true, eqb-false}
use Rattle.ground.proofs.Test.{below_or_not}
use Rattle.pec.specs.Pec.{pec_of}
use Rattle.characters.specs.Character.{preamble, stop}
use Rattle.characters.specs.Nibble.{is_nibble}
use Rattle.character_check.specs.Check.{is_character}
use Rattle.lines.specs.Line.{bytes_of}
use Rattle.lines.proofs.Between.{last_at}
use Rattle.questions.specs.Question.{good_question}
use Rattle.questions.specs.Shape.{shape_of}
use Rattle.questions.specs.declared.question.Question as asked
use Rattle.questions.proofs.Good.{good_kind, good_alive, good_count, good_device}
use Rattle.readings.specs.Reading.{refusal_number}
use Rattle.readings.specs.declared.Refusal.{Refusal}
use Rattle.readings.specs.declared.Refusal.TheVariants.{Question, Room, Length, Character, Frame, Manchester, Echo, Pec, Alive, Check, Count}
use Rattle.promises.specs.Rows.{echo, count_in, read_rows}
use Rattle.promises.specs.TellMeWhy.{Passes}
use Rattle.promises.proofs.RowsPassed.{Given}

-- how many rows stand before a refusal's
abbrev pub before : Refusal → ℕ
before Question = 0
before Room = 1
before Length = 2
before (Character i) = 3
before Frame = 4
before (Manchester i) = 5
before Echo = 6
before Pec = 7
before Alive = 8
before (Check b) = 9
before (Count b) = 10

pub by_order : (why : Refusal) → refusal_number why ≡ 1 + before why
by_order Question = refl
by_order Room = refl
by_order Length = refl
by_order (Character i) = refl
by_order Frame = refl
by_order (Manchester i) = refl
by_order Echo = refl
by_order Pec = refl
by_order Alive = refl
by_order (Check b) = refl
by_order (Count b) = refl

-- what is not other is the same, of numbers and of tests
pub not_other : (a b : ℕ) → ((a ≡ b → ⊥) → ⊥) → a ≡ b
not_other a b h = by_test (eqb a b) refl
  where
    by_test : (t : Bool) → eqb a b ≡ t → a ≡ b
    by_test true e = eqb-true a b e
    by_test false e = absurd (h (eqb-false a b e))

pub not_false : (t : Bool) → (t ≡ false → ⊥) → t ≡ true
not_false true h = refl
not_false false h = absurd (h refl)

module _ (q : asked.Question) (line : List ℕ) where
  abbrev PecAt : ℕ → Type 0
  PecAt i = get_or (bytes_of line) i 0 ≡ pec_of (take i (bytes_of line))

  abbrev AliveAt : ℕ → Type 0
  AliveAt i = get_or (bytes_of line) i 0 ≡ (q.seed + (shape_of q).acting) % 256

  abbrev CheckAt : ℕ → Type 0
  CheckAt i = get_or (bytes_of line) i 0 ≡ 0

  abbrev CountAt : ℕ → Type 0
  CountAt i = (1 ≤ get_or (bytes_of line) i 0) × (get_or (bytes_of line) i 0 ≤ 32)

  counted : ((count_in (bytes_of line) ≡ 0) ⊎ (32 < count_in (bytes_of line)) → ⊥) → CountAt 2
  counted none =
      ⊎_elim (λ low. absurd (none (inl low)))
      (λ some. (some, ⊎_elim (λ high. absurd (none (inr high))) (λ few. few) (below_or_not 32 (count_in (bytes_of line)))))
      (eq-zero-or-pos (count_in (bytes_of line)))

  -- FRAME at a word
  framed_at : (Given (read_rows q line 32) 4 → ⊥) → (i : ℕ) → Passes q line Frame i
  framed_at none i = (
    λ first. ap (λ (k : ℕ). get_or line k 0) first ∙ not_other (get_or line 0 0) preamble (λ other. none (inl other)),
    λ end. let last : i ≡ length line - 1 = omega arith in
        ap (λ (k : ℕ). get_or line k 0) last ∙ sym (last_at line) ∙ not_other (get_last_d line 0) stop (λ other. none (inr other)),
  )

  pub passes : (why : Refusal) → (Given (read_rows q line 32) (before why) → ⊥) → (i : ℕ) → Passes q line why i
  passes Question none zero = good_kind q (not_false (good_question q) none)
  passes Question none (suc zero) = good_alive q (not_false (good_question q) none)
  passes Question none (suc (suc zero)) = good_count q (not_false (good_question q) none)
  passes Question none (suc (suc (suc i))) = good_device q (not_false (good_question q) none)
  passes Room none i = tt
  passes Length none i = not_other (length line) (shape_of q).words none
  passes (Character p) none i = λ inside. not_false (is_character (get_or line i 0)) (λ bad. none (i, inside, bad))
  passes Frame none i = framed_at none i
  passes (Manchester p) none i = λ from inside. not_false (is_nibble (get_or line i 0)) (λ bad. none (i, from, omega arith, bad))
  passes Echo none i = λ inside. not_other (get_or (bytes_of line) i 0) (get_or (echo q) i 0) (λ other. none (i, inside, other))
  passes Pec none i = λ kind is. subst PecAt (sym is) (not_other _ _ (λ other. none (kind, other)))
  passes Alive none i = λ kind on is. subst AliveAt (sym is) (not_other _ _ (λ other. none (kind, on, other)))
  passes (Check b) none i = λ kind is. subst CheckAt (sym is) (not_other _ _ (λ other. none (kind, other)))
  passes (Count b) none i = λ kind is. subst CountAt (sym is) (counted (λ out. none (kind, out)))
