-- The end of the way: when all n devices have had a command, all that are to act have acted, and all that is to come back is put in.
use mathlib.Core.Path.{◌≡◌, refl, sym, ap, ◌∙◌}
use mathlib.Core.Bool.{Bool, true, cond}
use mathlib.Core.Logic.{◌⊎◌, inl, inr, ⊎_elim}
use mathlib.Core.List.{List, [], ◌∷◌}
use Prim.Native.Nat.{ℕ, ◌≤◌}
use native.Mathlib.Omega.{arith}
use lib.Dec.{ltb}
use lib.ListN.{length}
use borrow.Author.Tests.{lt-ltb}
use Rattle.ground.specs.Sweep.{tabulated}
use Rattle.ground.proofs.Sweep.{length_tabulated}
use Rattle.questions.specs.Question.{good_question}
use Rattle.questions.specs.Shape.{shape_at, shape_of}
use Rattle.questions.specs.declared.question.Question.{Question}
use Rattle.questions.proofs.ByKind.{each_kind}
use Rattle.questions.proofs.Good.{good_kind, good_device}
use Rattle.acceptance.specs.Answer.{Registers, Sendable}
use Rattle.roundtrip.specs.Between.{held, acted_at, acted, put_at, put_in, brought_at, brought_back}
use Rattle.roundtrip.proofs.Values.{held_lt, tabulated_registers, one_register}
use Rattle.roundtrip.proofs.CommandFirst.{one_if}

module _ (q : Question) (good : good_question q ≡ true) (sends : Sendable q) (n : ℕ) (chain : 1 ≤ q.kind → q.n ≡ n)
    (memory : List ℕ) (words : Registers memory) where
  kind : q.kind ≤ 4
  kind = good_kind q good

  named_within : (q.kind ≡ 2) ⊎ (q.kind ≡ 4) → ltb q.device n ≡ true
  named_within e =
      let some : 1 ≤ q.kind = ⊎_elim (λ (x : q.kind ≡ 2). omega arith) (λ x. omega arith) e in
      lt-ltb q.device n (omega (arith, good_device q good e, chain some))

  -- all that are to act have acted
  pub all_acted : 1 ≤ q.kind → acted q n ≡ (shape_of q).acting
  unfolding acted shape_of
  all_acted some =
      each_kind (λ (x : ℕ). q.kind ≡ x → 1 ≤ x → acted_at x q n ≡ (shape_at x q).acting)
      (λ e lo. absurd (omega arith)) (λ e lo. sym (chain some)) (λ e lo. ap one_if (named_within (inl e)))
      (λ e lo. sym (chain some)) (λ e lo. ap one_if (named_within (inr e))) q.kind kind refl some

  -- all that is to come back is put in
  pub all_put : 3 ≤ q.kind → put_in q n memory ≡ brought_back q n memory
  unfolding put_in brought_back
  all_put reads =
      let one = held memory q.device q.reg in
      let all = tabulated (λ (k : ℕ). held memory k q.reg) n 0 in
      each_kind (λ (x : ℕ). q.kind ≡ x → 3 ≤ x → put_at x q n memory ≡ brought_at x q n memory)
      (λ e lo. absurd (omega arith)) (λ e lo. absurd (omega arith)) (λ e lo. absurd (omega arith)) (λ e lo. refl)
      (λ e lo. ap (λ (t : Bool). cond t (one ∷ []) []) (named_within (inr e))) q.kind kind refl reads

  pub all_number : 3 ≤ q.kind → length (brought_back q n memory) ≡ (shape_of q).values
  unfolding brought_back shape_of
  all_number reads =
      let one = held memory q.device q.reg in
      let f : ℕ → ℕ = λ k. held memory k q.reg in
      each_kind (λ (x : ℕ). 3 ≤ x → length (brought_at x q n memory) ≡ (shape_at x q).values)
      (λ lo. absurd (omega arith)) (λ lo. absurd (omega arith)) (λ lo. absurd (omega arith))
      (λ lo. length_tabulated f n 0 ∙ sym (chain (omega arith))) (λ lo. refl) q.kind kind reads

  -- the devices' registers are registers' values
  pub all_registers : 3 ≤ q.kind → Registers (brought_back q n memory)
  unfolding brought_back
  all_registers reads =
      let one = held memory q.device q.reg in
      let f : ℕ → ℕ = λ k. held memory k q.reg in
      each_kind (λ (x : ℕ). 3 ≤ x → Registers (brought_at x q n memory))
      (λ lo. absurd (omega arith)) (λ lo. absurd (omega arith)) (λ lo. absurd (omega arith))
      (λ lo. tabulated_registers f n (λ k. held_lt memory words k q.reg sends.reg))
      (λ lo. one_register one (held_lt memory words q.device q.reg sends.reg)) q.kind kind reads

  pub hello_back : q.kind ≡ 0 → brought_back q n memory ≡ n ∷ []
  unfolding brought_back
  hello_back e = ap (λ (x : ℕ). brought_at x q n memory) e

  pub write_back : 1 ≤ q.kind → q.kind ≤ 2 → brought_back q n memory ≡ []
  unfolding brought_back
  write_back some low =
      each_kind (λ (x : ℕ). 1 ≤ x → x ≤ 2 → brought_at x q n memory ≡ [])
      (λ lo hi. absurd (omega arith)) (λ lo hi. refl) (λ lo hi. refl) (λ lo hi. absurd (omega arith)) (λ lo hi. absurd (omega arith)) q.kind kind some low
