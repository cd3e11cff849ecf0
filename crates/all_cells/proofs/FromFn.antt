-- An array from a function of the index that changes nothing it captures: each element is what the function gives there.
use mathlib.Core.Path.{◌≡◌, ◌∙◌, subst}
use mathlib.Core.List.{List}
use Prim.Native.Nat.{ℕ, zero, suc, ◌+◌, ◌<◌}
use native.Mathlib.Nat.{le_of_suc-le-suc, not-suc-le-zero}
use native.Mathlib.Omega.{arith}
use lib.ListN.{get_or}
use denote.Param.Members.{Mut, Called}
use Rattle.std.specs.Array.{IsFromFnResultFrom, IsFromFnResult}

module _ {F B : Type 0} (g : Mut F (ℕ × Unit {0}) B) (f : F) (value : ℕ → B)
    (keeps : (i : ℕ) (y : B) (q : F) → Called g f (i, tt) y q → (q ≡ f) × (y ≡ value i)) where
  from : (ys : List B) (i n : ℕ) → IsFromFnResultFrom g f ys i n → (k : ℕ) (d : B) → k < n → get_or ys (i + k) d ≡ value (i + k)
  from ys i zero h k d lt = absurd (not-suc-le-zero lt)
  from ys i (suc n) h zero d lt =
      let same : i ≡ i + 0 = omega arith in
      subst (λ (x : ℕ). get_or ys x d ≡ value x) same (h.2.1 d ∙ (keeps i h.1 h.0 h.3).1)
  from ys i (suc n) h (suc k) d lt =
      let on : i + 1 + k ≡ i + suc k = omega arith in
      subst (λ (x : ℕ). get_or ys x d ≡ value x) on
      (from ys (i + 1) n (subst (λ (s : F). IsFromFnResultFrom g s ys (i + 1) n) (keeps i h.1 h.0 h.3).0 h.4) k d (le_of_suc-le-suc lt))

  pub element : (ys : List B) (n : ℕ) → IsFromFnResult g f ys n → (k : ℕ) (d : B) → k < n → get_or ys k d ≡ value k
  element ys n made k d lt =
      let same : 0 + k ≡ k = omega arith in
      subst (λ (x : ℕ). get_or ys x d ≡ value x) same (from ys 0 n made.each k d lt)
