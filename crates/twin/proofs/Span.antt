-- Devices from one place of a chain to another: none of them yet, one more, and all of the chain.
use Rattle.std.specs.Prelude.{Result, ⊤}
use mathlib.Core.Path.{◌≡◌, refl, sym, ap, ap₂, ◌∙◌, subst}
use mathlib.Core.Bool.{Bool, true, false, cond, ◌&&◌}
use mathlib.Core.List.{List}
use Prim.Native.Nat.{ℕ, zero, suc, ◌+◌, ◌*◌, ◌≤◌, ◌<◌}
use native.Mathlib.Omega.{arith}
use lib.Dec.{leb, ltb}
use lib.ListN.{length}
use borrow.Author.Tests.{leb-true, le-leb, lt-leb, lt-ltb}
use Rattle.ground.proofs.Test.{and_left, and_right}
use Rattle.registers.specs.Memory.{is_chain}
use Rattle.registers.proofs.Power.{chain_words}
use Rattle.twin.specs.Step.{Chain, chain_with, hop, hops_from, hops, is_span, Done, StepDone, SpanDone, ChainDone}
use Rattle.twin.specs.declared.step.StepRefusal.{StepRefusal}

module _ (n : ℕ) (s : Chain) where
  -- before the first device of a span
  pub none_of_span : (from : ℕ) → hops_from n from from s ≡ s
  unfolding hops_from
  none_of_span zero = refl
  none_of_span (suc k) = ap (λ (t : Bool). cond t (hop n k (hops_from n (suc k) k s)) s) (lt-leb (suc k) k (omega arith))

  -- device k, after those from a place up to it
  pub next_of_span : (from k : ℕ) → from ≤ k → hop n k (hops_from n from k s) ≡ hops_from n from (k + 1) s
  unfolding hops_from
  next_of_span from k up =
      let place : suc k ≡ k + 1 = omega arith in
      ap (λ (t : Bool). cond t (hop n k (hops_from n from k s)) s) (sym (le-leb from k up)) ∙ ap (λ (m : ℕ). hops_from n from m s) place

  -- device m, after the first m of the chain
  pub next_of_chain : (m : ℕ) → hops n (suc m) s ≡ hop n m (hops n m s)
  next_of_chain m =
      let place : suc m ≡ m + 1 = omega arith in
      ap (λ (k : ℕ). hops n k s) place ∙ sym (next_of_span 0 m (omega arith))

-- what a span is
pub in_span : (n from to words : ℕ) → is_span n from to words ≡ true → (words ≡ 256 * n) × (from ≤ to) × (to ≤ n)
in_span n from to words is =
    let begun = and_left (is_chain n words && leb from to) (leb to n) is in (
      chain_words n words (and_left (is_chain n words) (leb from to) begun),
      leb-true from to (and_right (is_chain n words) (leb from to) begun),
      leb-true to n (and_right (is_chain n words && leb from to) (leb to n) is),
    )

-- ---- one device as a span

and_true : (t : Bool) → (t && true) ≡ t
and_true true = refl
and_true false = refl

pub as_step : (n k : ℕ) (memory memory_left line out out_after : List ℕ) (r : Result ⊤ StepRefusal) → k < n
    → SpanDone n k (k + 1) memory memory_left line out out_after r → StepDone n k memory memory_left line out out_after r
as_step n k memory memory_left line out out_after r device done =
    let s = chain_with memory line in
    let chain = is_chain n (length memory) in
    let one : hops_from n k (k + 1) s ≡ hop n k s = sym (next_of_span n s k k (omega arith)) ∙ ap (hop n k) (none_of_span n s k) in
    let fits : is_span n k (k + 1) (length memory) ≡ (chain && ltb k n) =
    ap₂ (λ (t u : Bool). chain && t && u) (le-leb k (k + 1) (omega arith)) (le-leb (k + 1) n (omega arith)) ∙ and_true (chain && true)
    ∙ sym (ap (λ (t : Bool). chain && t) (lt-ltb k n device)) in
    subst (λ (x : Chain). Done (chain && ltb k n) s x out out_after memory_left r) one
    (subst (λ (t : Bool). Done t s (hops_from n k (k + 1) s) out out_after memory_left r) fits done)

-- ---- the whole chain as a span: device 0 to the last

-- row 15 alone decides
whole_chain : (n words : ℕ) → is_span n 0 n words ≡ is_chain n words
whole_chain n words = ap₂ (λ (t u : Bool). is_chain n words && t && u) (le-leb 0 n (omega arith)) (le-leb n n (omega arith)) ∙ whatever (is_chain n words)
  where
    whatever : (t : Bool) → (t && true && true) ≡ t
    whatever true = refl
    whatever false = refl

pub as_chain : (n : ℕ) (memory memory_left line out out_after : List ℕ) (r : Result ⊤ StepRefusal)
    → SpanDone n 0 n memory memory_left line out out_after r → ChainDone n memory memory_left line out out_after r
as_chain n memory memory_left line out out_after r done =
    let s = chain_with memory line in
    subst (λ (fits : Bool). Done fits s (hops n n s) out out_after memory_left r) (whole_chain n (length memory)) done
