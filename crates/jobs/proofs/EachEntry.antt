-- What holds of no bytes, and of an entry's with the rest behind it, holds of all good entries' bytes.
use mathlib.Core.Path.{◌≡◌, sym, ◌∙◌}
use mathlib.Core.Bool.{Bool, true, ◌&&◌}
use mathlib.Core.List.{List, [], ◌∷◌}
use Prim.Native.Nat.{ℕ, zero, suc, ◌<◌}
use native.Mathlib.Omega.{arith}
use lib.ListN.{length, drop, length-drop}
use Rattle.ground.proofs.Test.{and_left, and_right}
use Rattle.jobs.specs.declared.Header.{Header}
use Rattle.jobs.specs.Check.{size_in, good_entry, good_entries}
use Rattle.jobs.proofs.Sizes.{field_bounds}
use Rattle.jobs.proofs.Walk.{one_entry}

module _ (h : Header) (P : List ℕ → Type 0) (nothing : P [])
    (step : (front : List ℕ) → 0 < length front → good_entry h front ≡ true → P (drop (size_in h.version front) front) → P front) where
  one_step : (bytes : List ℕ) → good_entries h bytes ≡ true
      → ((rest : List ℕ) → length rest < length bytes → good_entries h rest ≡ true → P rest) → P bytes
  one_step [] ok shorter = nothing
  one_step (b ∷ bytes) ok shorter =
      let front = b ∷ bytes in
      let both = sym (one_entry h.version true (λ (f : List ℕ) (later : Bool). good_entry h f && later) front (omega arith)) ∙ ok in
      step front (omega arith) (and_left (good_entry h front) _ both)
      (shorter (drop (size_in h.version front) front) (omega (arith, length-drop (size_in h.version front) front, (field_bounds h.version).0)) (and_right (good_entry h front) _ both))

  below : (most : ℕ) (bytes : List ℕ) → length bytes < most → good_entries h bytes ≡ true → P bytes
  below zero bytes short ok = absurd (omega arith)
  below (suc most) bytes short ok = one_step bytes ok (λ rest less. below most rest (omega arith))

  pub each_entry : (bytes : List ℕ) → good_entries h bytes ≡ true → P bytes
  each_entry bytes ok = below (suc (length bytes)) bytes (omega arith) ok
