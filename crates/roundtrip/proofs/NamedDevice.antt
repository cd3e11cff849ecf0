-- Of the kinds that are put to one device: nothing is put in before that device, its own value after it, and no other device counts.
use mathlib.Core.Path.{◌≡◌, refl, sym, ap, ap₂, ◌∙◌, subst}
use mathlib.Core.Bool.{Bool, true, false, cond}
use mathlib.Core.Logic.{◌⊎◌, inl, inr, ⊎_elim}
use mathlib.Core.List.{List, [], ◌∷◌, ◌++◌}
use Prim.Native.Nat.{ℕ, suc, ◌+◌, ◌*◌, ◌≤◌, ◌<◌}
use native.Mathlib.Omega.{arith}
use lib.Dec.{ltb, eqb, lit≤}
use lib.ListN.{length}
use borrow.Author.Tests.{lt-ltb, le-ltb}
use Rattle.ground.proofs.Test.{below_or_not}
use Rattle.questions.specs.Question.{covers, covers_at}
use Rattle.questions.specs.Shape.{shape_at, shape_of}
use Rattle.questions.specs.declared.question.Question.{Question}
use Rattle.roundtrip.specs.Between.{held, one_of, acted_at, acted, put_at, put_in}
use Rattle.roundtrip.proofs.PutInSoFar.{acted_at_lem, put_at_lem, covers_at_lem}

module _ (q : Question) (memory : List ℕ) (m x : ℕ) (e : q.kind ≡ x) (which : (x ≡ 2) ⊎ (x ≡ 4)) where
  pub some_one : 1 ≤ q.kind
  some_one = ⊎_elim (λ (is : x ≡ 2). omega arith) (λ is. omega arith) which

  pub by_two : (P : ℕ → Type 0) → P 2 → P 4 → P x
  by_two P two four = ⊎_elim (λ is. subst P (sym is) two) (λ is. subst P (sym is) four) which

  pub acted_one : (i : ℕ) → acted q i ≡ one_of q.device i
  acted_one i = acted_at_lem q x i e ∙ by_two (λ (y : ℕ). acted_at y q i ≡ one_of q.device i) refl refl

  pub same_put : (i j : ℕ) → ltb q.device i ≡ ltb q.device j → put_in q i memory ≡ put_in q j memory
  same_put i j same =
      put_at_lem q memory x i e ∙ by_two (λ (y : ℕ). put_at y q i memory ≡ put_at y q j memory) refl
      (ap (λ (t : Bool). cond t (held memory q.device q.reg ∷ []) []) same) ∙ sym (put_at_lem q memory x j e)

  pub covers_one : covers q m ≡ eqb m q.device
  covers_one = covers_at_lem q m x e ∙ by_two (λ (y : ℕ). covers_at y q m ≡ eqb m q.device) refl refl

  pub put_nothing : ltb q.device m ≡ false → put_in q m memory ≡ []
  put_nothing none =
      put_at_lem q memory x m e ∙ by_two (λ (y : ℕ). put_at y q m memory ≡ []) refl
      (ap (λ (t : Bool). cond t (held memory q.device q.reg ∷ []) []) none)

  pub put_one : 3 ≤ q.kind → ltb q.device m ≡ false → ltb q.device (suc m) ≡ true → q.device ≡ m
      → put_in q (suc m) memory ≡ put_in q m memory ++ (held memory m q.reg ∷ [])
  put_one reads none one is =
      put_at_lem q memory x (suc m) e ∙ by_two (λ (y : ℕ). 3 ≤ y → put_at y q (suc m) memory ≡ held memory m q.reg ∷ [])
      (λ lo. absurd (omega arith))
      (λ lo. ap₂ (λ (t : Bool) (d : ℕ). cond t (held memory d q.reg ∷ []) []) one is) (omega (arith, e))
      ∙ ap (λ (l : List ℕ). l ++ (held memory m q.reg ∷ [])) (sym (put_nothing none))

  few : length (put_in q m memory) ≤ 1
  few = subst (λ (l : List ℕ). length l ≤ 1) (sym (put_at_lem q memory x m e)) (by_two (λ (y : ℕ). length (put_at y q m memory) ≤ 1) (lit≤ tt) (either (ltb q.device m)))
    where
      either : (t : Bool) → length (cond t (held memory q.device q.reg ∷ []) []) ≤ 1
      either true = lit≤ tt
      either false = lit≤ tt

  pub room : 3 ≤ q.kind → length (put_in q m memory) ≤ (shape_of q).values
  unfolding shape_of
  room reads =
      by_two (λ (y : ℕ). q.kind ≡ y → length (put_in q m memory) ≤ (shape_of q).values) (λ is. absurd (omega arith))
      (λ is. subst (λ (k : ℕ). length (put_in q m memory) ≤ (shape_at k q).values) (sym is) few) e

  pub command_byte : ((shape_of q).first ≡ q.device * 8 + 4) ⊎ ((shape_of q).first ≡ q.device * 8 + 5)
  unfolding shape_of
  command_byte = ⊎_elim (λ is. inl (ap (λ (k : ℕ). (shape_at k q).first) (e ∙ is))) (λ is. inr (ap (λ (k : ℕ). (shape_at k q).first) (e ∙ is))) which

  beyond : (q.device ≡ m → ⊥) → m ≤ q.device → suc m ≤ q.device
  beyond differ ge = ⊎_elim (λ (lt : m < q.device). lt) (λ (le : q.device ≤ m). absurd (differ (omega arith))) (below_or_not m q.device)

  pub unmoved : (q.device ≡ m → ⊥) → ltb q.device (suc m) ≡ ltb q.device m
  unmoved differ =
      ⊎_elim (λ (lt : q.device < m). lt-ltb q.device (suc m) (omega arith) ∙ sym (lt-ltb q.device m lt))
      (λ (ge : m ≤ q.device). le-ltb q.device (suc m) (beyond differ ge) ∙ sym (le-ltb q.device m ge)) (below_or_not q.device m)
