-- Two lines of bytes differ in exactly twice as many line bits as the bytes differ in bits.
use mathlib.Core.Path.{◌≡◌, refl, sym, ap, ap₂, ◌∙◌}
use mathlib.Core.List.{List, [], ◌∷◌}
use Prim.Native.Nat.{ℕ, suc, ◌+◌, ◌*◌, ◌/◌, ◌%◌, ◌<◌}
use native.Mathlib.Nat.{suc_inj}
use native.Mathlib.Omega.{arith}
use lib.Bits.{bit_xor, xor_block, xor_lt}
use lib.Count.{ones, ones_cat}
use lib.ListN.{length}
use lib.Pow.{split}
use Rattle.remainder.specs.Turned.{distance, Bytes}
use Rattle.remainder.proofs.Turned.{distance_self, distance_append}
use Rattle.characters.specs.Character.{preamble, stop}
use Rattle.characters.proofs.Nibble.{word_distance}
use Rattle.lines.specs.Line.{characters_of, line_of}
use Rattle.lines.proofs.Line.{length_characters}

-- the bits in which two bytes differ, nibble by nibble
two_nibbles : (x y : ℕ) → ones (bit_xor x y) ≡ ones (bit_xor (x / 16) (y / 16)) + ones (bit_xor (x % 16) (y % 16))
two_nibbles x y =
    let lx : x % 16 < 16 = omega arith in
    let ly : y % 16 < 16 = omega arith in
    ap ones (ap₂ bit_xor (sym (split x 4)) (sym (split y 4)) ∙ xor_block 4 (x / 16) (y / 16) (x % 16) (y % 16) lx ly)
    ∙ ones_cat 4 (bit_xor (x / 16) (y / 16)) (bit_xor (x % 16) (y % 16)) (xor_lt 4 (x % 16) (y % 16) lx ly)

characters_distance : (xs ys : List ℕ) → length xs ≡ length ys → Bytes xs → Bytes ys → distance (characters_of xs) (characters_of ys) ≡ 2 * distance xs ys
unfolding characters_of distance
characters_distance [] [] e bx by = refl
characters_distance [] (y ∷ ys) e bx by = absurd (omega arith)
characters_distance (x ∷ xs) [] e bx by = absurd (omega arith)
characters_distance (x ∷ xs) (y ∷ ys) e bx by =
    let hx = bx 0 in
    let hy = by 0 in
    let low = word_distance (x % 16) (y % 16) (omega arith) (omega arith) in
    let high = word_distance (x / 16) (y / 16) (omega arith) (omega arith) in
    let both = two_nibbles x y in
    let rest = characters_distance xs ys (suc_inj e) (λ i. bx (suc i)) (λ i. by (suc i)) in
    omega arith

pub line_distance : (xs ys : List ℕ) → length xs ≡ length ys → Bytes xs → Bytes ys → distance (line_of xs) (line_of ys) ≡ 2 * distance xs ys
unfolding line_of distance
line_distance xs ys e bx by =
    let size : length (characters_of xs) ≡ length (characters_of ys) = omega (arith, length_characters xs, length_characters ys) in
    let middle = distance_append (characters_of xs) (characters_of ys) (stop ∷ []) (stop ∷ []) size in
    let first = distance_self (preamble ∷ []) in
    let last = distance_self (stop ∷ []) in
    let inner = characters_distance xs ys e bx by in
    omega arith
