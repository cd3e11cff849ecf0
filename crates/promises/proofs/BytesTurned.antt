-- Bits turned over in the bytes of some words are bits turned over in the words, and as many of them.
use mathlib.Core.Path.{◌≡◌, refl, ap, ap₂, ◌∙◌}
use mathlib.Core.List.{List, [], ◌∷◌}
use Prim.Native.Nat.{ℕ, ◌+◌, ◌/◌, ◌%◌}
use native.Mathlib.Nat.{suc_inj, div-add-mod'}
use native.Mathlib.Omega.{arith}
use lib.Bits.{bit_xor, xor_mod, xor_shr}
use lib.Count.{ones, ones_cat}
use lib.ListN.{length}
use Rattle.remainder.specs.Turned.{turned, weight}
use Rattle.packing.specs.Words.{as_bytes}

pub bytes_turned : (words masks : List ℕ) → length words ≡ length masks → as_bytes (turned words masks) ≡ turned (as_bytes words) (as_bytes masks)
unfolding turned as_bytes
bytes_turned [] [] e = refl
bytes_turned [] (m ∷ masks) e = absurd (omega arith)
bytes_turned (w ∷ words) [] e = absurd (omega arith)
bytes_turned (w ∷ words) (m ∷ masks) e =
    ap₂ (λ (x y : ℕ). x ∷ y ∷ as_bytes (turned words masks)) (xor_mod w m 8) (xor_shr w m 8)
    ∙ ap (λ (l : List ℕ). bit_xor (w % 256) (m % 256) ∷ bit_xor (w / 256) (m / 256) ∷ l) (bytes_turned words masks (suc_inj e))

-- a word's bits are those of its two bytes
two_bytes_bits : (w : ℕ) → ones (w % 256) + ones (w / 256) ≡ ones w
two_bytes_bits w =
    let bits = ones_cat 8 (w / 256) (w % 256) (omega arith) in
    let whole = ap ones (div-add-mod' w 256) in
    omega arith

pub weight_bytes : (words : List ℕ) → weight (as_bytes words) ≡ weight words
unfolding weight as_bytes
weight_bytes [] = refl
weight_bytes (w ∷ words) = omega (arith, two_bytes_bits w, weight_bytes words)
