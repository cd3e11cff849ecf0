-- The first byte of a command tells device k its kind; and what the kind settles, a question heard with that kind has like the one put.
use mathlib.Core.Path.{◌≡◌, refl, sym, ap, ◌∙◌}
use mathlib.Core.Logic.{inl, inr}
use Prim.Native.Nat.{ℕ, ◌+◌, ◌*◌, ◌≤◌}
use native.Mathlib.Omega.{arith}
use borrow.Author.Tests.{eq-eqb, ne_eqb}
use Rattle.questions.specs.Shape.{shape_at, shape_of}
use Rattle.questions.specs.declared.question.Question.{Question}
use Rattle.questions.proofs.ByKind.{each_kind}
use Rattle.questions.proofs.Good.{good_kind}
use Rattle.hearing.specs.Hear.{kind_heard}
use Rattle.roundtrip.specs.Between.{For}

-- the first byte tells the kind
pub kind_back : (q : Question) (n k : ℕ) → For q n k → kind_heard k (shape_of q).first ≡ q.kind
unfolding shape_of kind_heard
kind_back q n k f =
    each_kind (λ (x : ℕ). q.kind ≡ x → kind_heard k (shape_at x q).first ≡ x) (λ e. refl) (λ e. refl)
    (λ e. let d = f.to (inl e) in
    simp (ne_eqb (q.device * 8 + 4) 0x57 (λ x. absurd (omega arith)), ne_eqb (q.device * 8 + 4) 0x02 (λ x. absurd (omega arith)), eq-eqb (q.device * 8 + 4) (k * 8 + 4) (ap (λ (x : ℕ). x * 8 + 4) d)))
    (λ e. simp (ne_eqb 3 (k * 8 + 4) (λ x. absurd (omega arith))))
    (λ e. simp (ne_eqb (q.device * 8 + 5) 0x57 (λ x. absurd (omega arith)), ne_eqb (q.device * 8 + 5) 0x02 (λ x. absurd (omega arith)), ne_eqb (q.device * 8 + 5) (k * 8 + 4) (λ x. absurd (omega arith)), ne_eqb (q.device * 8 + 5) 0x03 (λ x. absurd (omega arith))))
    q.kind (good_kind q f.good) refl

-- what the kind settles is settled alike
module _ (q p : Question) (n k : ℕ) (f : For q n k) (kind : p.kind ≡ q.kind) (chain : p.n ≡ n) (device : p.device ≡ k) (some : 1 ≤ q.kind) where
  number : p.n ≡ q.n
  number = chain ∙ sym (f.chain some)

  pub first_alike : (shape_of p).first ≡ (shape_of q).first
  unfolding shape_of
  first_alike =
      ap (λ (x : ℕ). (shape_at x p).first) kind
      ∙ each_kind (λ (x : ℕ). q.kind ≡ x → (shape_at x p).first ≡ (shape_at x q).first) (λ e. refl) (λ e. refl)
      (λ e. ap (λ (d : ℕ). d * 8 + 4) (device ∙ sym (f.to (inl e)))) (λ e. refl) (λ e. ap (λ (d : ℕ). d * 8 + 5) (device ∙ sym (f.to (inr e))))
      q.kind (good_kind q f.good) refl

  pub values_alike : (shape_of p).values ≡ (shape_of q).values
  unfolding shape_of
  values_alike =
      ap (λ (x : ℕ). (shape_at x p).values) kind
      ∙ each_kind (λ (x : ℕ). (shape_at x p).values ≡ (shape_at x q).values) refl refl refl number refl q.kind (good_kind q f.good)

  pub words_alike : p.alive ≡ 0 → (shape_of q).words ≡ (shape_of p).words + 2 * q.alive
  unfolding shape_of
  words_alike off =
      each_kind (λ (x : ℕ). 1 ≤ x → (shape_at x q).words ≡ (shape_at x p).words + 2 * q.alive) (λ lo. absurd (omega arith))
      (λ lo. omega (arith, off)) (λ lo. omega (arith, off)) (λ lo. omega (arith, off, number)) (λ lo. omega (arith, off)) q.kind (good_kind q f.good) some
      ∙ ap (λ (x : ℕ). (shape_at x p).words + 2 * q.alive) (sym kind)
