-- What a good question gives: bounds on its fields, and the shape of its form.
use mathlib.Core.Path.{◌≡◌, refl, sym, ap, ◌∙◌}
use mathlib.Core.Bool.{true, ◌&&◌, ◌||◌, not, true≢false}
use mathlib.Core.Logic.{◌⊎◌, inl, inr, ⊎_elim}
use Prim.Native.Nat.{ℕ, zero, suc, ◌+◌, ◌*◌, ◌≤◌, ◌<◌}
use native.Mathlib.Nat.{eq-zero-or-pos}
use native.Mathlib.Omega.{arith}
use lib.Dec.{leb, ltb, eqb, lit<, lit≤}
use borrow.Author.Tests.{leb-true, ltb-true, eqb-true, eq-eqb, not-true, le-leb, lt-ltb}
use Rattle.ground.proofs.Test.{and_left, and_right, or_cases, or_left, or_right, below_or_not}
use Rattle.questions.specs.Question.{good_chain, good_question}
use Rattle.questions.specs.Shape.{shape_at, shape_of}
use Rattle.questions.specs.declared.question.Question.{Question}
use Rattle.questions.specs.declared.question.Shape.{Shape}
use Rattle.questions.proofs.ByKind.{each_kind}

module _ (q : Question) (good : good_question q ≡ true) where
  pub good_kind : q.kind ≤ 4
  unfolding good_question
  good_kind = leb-true q.kind 4 (and_left _ _ (and_left _ _ good))

  pub good_alive : q.alive ≤ 1
  unfolding good_question
  good_alive = leb-true q.alive 1 (and_right (leb q.kind 4) _ (and_left _ _ good))

  chain : 1 ≤ q.kind → good_chain q ≡ true
  unfolding good_question
  chain h =
      ⊎_elim (λ e. absurd (omega (arith, eqb-true q.kind 0 e))) (λ e. e)
      (or_cases (eqb q.kind 0) (good_chain q) (and_right (leb q.kind 4 && leb q.alive 1) _ good))

  pub good_count : 1 ≤ q.kind → (1 ≤ q.n) × (q.n ≤ 32)
  unfolding good_chain
  good_count h =
      (leb-true 1 q.n (and_left _ _ (and_left _ _ (chain h))), leb-true q.n 32 (and_right (leb 1 q.n) _ (and_left _ _ (chain h))))

  pub good_device : (q.kind ≡ 2) ⊎ (q.kind ≡ 4) → q.device < q.n
  unfolding good_chain
  good_device e =
      let named = eqb q.kind 2 || eqb q.kind 4 in
      let one : named ≡ true =
      ⊎_elim (λ e. or_left (eqb q.kind 2) (eqb q.kind 4) (eq-eqb q.kind 2 e))
      (λ e. or_right (eqb q.kind 2) (eqb q.kind 4) (eq-eqb q.kind 4 e)) e in
      let h : 1 ≤ q.kind = ⊎_elim (λ e. omega arith) (λ e. omega arith) e in
      ⊎_elim (λ no_device. absurd (true≢false (sym one ∙ not-true named no_device))) (λ t. ltb-true q.device q.n t)
      (or_cases (not named) (ltb q.device q.n) (and_right (leb 1 q.n && leb q.n 32) _ (chain h)))

  -- the command byte is a byte, and no more than 32 values come back
  pub good_first : (shape_of q).first < 256
  unfolding shape_of
  good_first =
      each_kind (λ (k : ℕ). q.kind ≡ k → (shape_at k q).first < 256) (λ e. lit< tt) (λ e. lit< tt)
      (λ e. let d = good_device (inl e) in let n = good_count (omega arith) in omega (arith, n.1))
      (λ e. lit< tt)
      (λ e. let d = good_device (inr e) in let n = good_count (omega arith) in omega (arith, n.1))
      q.kind good_kind refl

  pub good_values : (shape_of q).values ≤ 32
  unfolding shape_of
  good_values =
      each_kind (λ (k : ℕ). q.kind ≡ k → (shape_at k q).values ≤ 32) (λ e. lit≤ tt) (λ e. lit≤ tt) (λ e. lit≤ tt)
      (λ e. (good_count (omega arith)).1) (λ e. lit≤ tt) q.kind good_kind refl

-- a question all of whose numbers are within their bounds is good
pub within_bounds : (q : Question) → q.kind ≤ 4 → q.alive ≤ 1 → 1 ≤ q.n → q.n ≤ 32 → q.device < q.n → good_question q ≡ true
unfolding good_question good_chain
within_bounds q kind alive least most device =
    let named = eqb q.kind 2 || eqb q.kind 4 in
    let chain : (leb 1 q.n && leb q.n 32 && (not named || ltb q.device q.n)) ≡ true =
    simp (le-leb _ _ least, le-leb _ _ most) (or_right (not named) (ltb q.device q.n) (lt-ltb _ _ device)) in
    simp (le-leb _ _ kind, le-leb _ _ alive) (or_right (eqb q.kind 0) _ chain)

-- ---- the shape of each form, of any question

module _ (q : Question) where
  pub hello_shape : q.kind ≡ 0 → shape_of q ≡ shape_at 0 q
  unfolding shape_of
  hello_shape e = ap (λ (k : ℕ). shape_at k q) e

  -- a write's answer covers four bytes and carries no value
  pub record WriteShape (s : Shape) : Type 0 where
    pub covered : s.covered ≡ 4
    pub values : s.values ≡ 0
    pub words : s.words ≡ 12 + 2 * q.alive

  pub write_shape : 1 ≤ q.kind → q.kind ≤ 2 → WriteShape (shape_of q)
  unfolding shape_of
  write_shape = at q.kind
    where
      at : (k : ℕ) → 1 ≤ k → k ≤ 2 → WriteShape (shape_at k q)
      at zero lo hi = absurd (omega arith)
      at (suc zero) lo hi = record { covered = refl; values = refl; words = refl }
      at (suc (suc zero)) lo hi = record { covered = refl; values = refl; words = refl }
      at (suc (suc (suc k))) lo hi = absurd (omega arith)

  -- a read's answer covers two bytes for each value, and three
  pub record ReadShape (s : Shape) : Type 0 where
    pub covered : s.covered ≡ 2 * s.values + 3
    pub words : s.words ≡ 10 + 4 * s.values + 2 * q.alive

  pub read_shape : 3 ≤ q.kind → ReadShape (shape_of q)
  unfolding shape_of
  read_shape = at q.kind
    where
      at : (k : ℕ) → 3 ≤ k → ReadShape (shape_at k q)
      at zero lo = absurd (omega arith)
      at (suc zero) lo = absurd (omega arith)
      at (suc (suc zero)) lo = absurd (omega arith)
      at (suc (suc (suc zero))) lo = record { covered = refl; words = refl }
      at (suc (suc (suc (suc k)))) lo = record { covered = refl; words = refl }

  pub covered_le : (shape_of q).covered ≤ 2 * q.n + 5
  unfolding shape_of
  covered_le = at q.kind
    where
      at : (k : ℕ) → (shape_at k q).covered ≤ 2 * q.n + 5
      at zero = omega arith
      at (suc zero) = omega arith
      at (suc (suc zero)) = omega arith
      at (suc (suc (suc zero))) = omega arith
      at (suc (suc (suc (suc k)))) = omega arith

-- ---- how many words an answer has

module _ (q : Question) (good : good_question q ≡ true) where
  pub words_most : (shape_of q).words ≤ 140
  words_most =
      let alive = good_alive q good in
      ⊎_elim
      (λ (low : q.kind < 3). ⊎_elim (λ e. omega (arith, ap (λ s. s.words) (hello_shape q e)))
      (λ lo. omega (arith, (write_shape q lo (omega arith)).words)) (eq-zero-or-pos q.kind))
      (λ lo. omega (arith, (read_shape q lo).words, good_values q good)) (below_or_not q.kind 3)

  -- and none has fewer than 8
  pub words_least : 8 ≤ (shape_of q).words
  words_least =
      ⊎_elim
      (λ (low : q.kind < 3). ⊎_elim (λ e. omega (arith, ap (λ s. s.words) (hello_shape q e)))
      (λ lo. omega (arith, (write_shape q lo (omega arith)).words)) (eq-zero-or-pos q.kind))
      (λ lo. omega (arith, (read_shape q lo).words)) (below_or_not q.kind 3)
