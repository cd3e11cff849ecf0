-- Devices that are not stepped, not yet or no more, keep their registers.
use mathlib.Core.Path.{◌≡◌, refl, sym, ap, ◌∙◌}
use mathlib.Core.Logic.{⊎_elim}
use Prim.Native.Nat.{ℕ, zero, suc, ◌≤◌, ◌<◌}
use native.Mathlib.Nat.{eq-or-lt_of_le}
use native.Mathlib.Omega.{arith}
use Rattle.twin.specs.Step.{registers_of, Chain, hops_from, hops}
use Rattle.twin.proofs.Registers.{hop_other}
use Rattle.twin.proofs.Span.{next_of_chain}

module _ (n : ℕ) (s : Chain) where
  -- not yet
  pub untouched : (m j : ℕ) → m ≤ j → registers_of (hops n m s).memory j ≡ registers_of s.memory j
  unfolding hops_from
  untouched zero j h = refl
  untouched (suc m) j h = ap (λ x. registers_of x.memory j) (next_of_chain n s m) ∙ hop_other n m (hops n m s) j (λ same. absurd (omega arith)) ∙ untouched m j (omega arith)

  -- no more
  pub settled : (m k : ℕ) → k < m → registers_of (hops n m s).memory k ≡ registers_of (hops n (suc k) s).memory k
  unfolding hops_from
  settled zero k h = absurd (omega arith)
  settled (suc m) k h =
      let up : k ≤ m = omega arith in
      ⊎_elim (λ (same : k ≡ m). ap (λ (i : ℕ). registers_of (hops n (suc i) s).memory k) (sym same))
      (λ lower. ap (λ x. registers_of x.memory k) (next_of_chain n s m) ∙ hop_other n m (hops n m s) k (λ same. absurd (omega arith)) ∙ settled m k lower) (eq-or-lt_of_le up)
