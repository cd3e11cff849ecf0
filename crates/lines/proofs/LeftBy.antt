-- What a call leaves, once its answer's number is known.
use mathlib.Core.Path.{◌≡◌, refl}
use Prim.Native.Nat.{ℕ, zero, suc, ◌≤◌}
use native.Mathlib.Omega.{arith}
use Rattle.lines.specs.Write.{left_by}

module _ {Memory : Type 0} (written before : Memory) where
  pub left_written : (number : ℕ) → number ≡ 0 → left_by number written before ≡ written
  left_written zero e = refl
  left_written (suc row) e = absurd (omega arith)

  pub left_as_it_was : (number : ℕ) → 1 ≤ number → left_by number written before ≡ before
  left_as_it_was zero away = absurd (omega arith)
  left_as_it_was (suc row) away = refl
