-- The mark at the front of a file, byte by byte.
use mathlib.Core.Path.{◌≡◌, refl, ap, ap₂, ◌∙◌}
use mathlib.Core.Bool.{Bool, true, false, ◌&&◌}
use mathlib.Core.List.{List, [], ◌∷◌}
use Prim.Native.Nat.{ℕ, ◌≤◌}
use native.Mathlib.Omega.{arith}
use lib.Dec.{eqb}
use lib.ListN.{length}
use Rattle.std.specs.List.{starts_with}
use Rattle.std.proofs.Common.{rules}
use Rattle.jobs.specs.Check.{marked}

grouped : (t u v : Bool) → t && (u && (v && true)) ≡ t && u && v
grouped true true true = refl
grouped true true false = refl
grouped true false v = refl
grouped false u v = refl

turned : (m a : ℕ) → eqb m a ≡ eqb a m
turned m a = search rules

pub begins : (file : List ℕ) → 3 ≤ length file → starts_with eqb file (0x42 ∷ 0x4D ∷ 0x43 ∷ []) ≡ marked file
unfolding marked
begins [] long = absurd (omega arith)
begins (a ∷ []) long = absurd (omega arith)
begins (a ∷ b ∷ []) long = absurd (omega arith)
begins (a ∷ b ∷ c ∷ rest) long =
    grouped (eqb 0x42 a) (eqb 0x4D b) (eqb 0x43 c) ∙ ap₂ (λ (t u : Bool). t && u && eqb 0x43 c) (turned 0x42 a) (turned 0x4D b)
    ∙ ap (λ (v : Bool). eqb a 0x42 && eqb b 0x4D && v) (turned 0x43 c)
