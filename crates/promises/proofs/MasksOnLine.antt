-- Masks laid on bytes: they turn over, on the line, the same bits and with each its complement, so that the line with the masks on it is the line of
-- the bytes with theirs.
use mathlib.Core.Path.{◌≡◌, refl, sym, ap, ap₂, ◌∙◌}
use mathlib.Core.Bool.{Bool, true}
use mathlib.Core.List.{List, [], ◌∷◌, ◌++◌}
use Prim.Native.Nat.{ℕ, zero, suc, ◌+◌, ◌*◌, ◌/◌, ◌%◌, ◌<◌}
use native.Mathlib.Nat.{suc_inj}
use native.Mathlib.Omega.{arith}
use lib.Bits.{bit_xor, xor_mod, xor_shr, xor_zero_r}
use lib.Dec.{eqb}
use lib.ListN.{length, length-append, replicate}
use borrow.Author.Tests.{eqb-true}
use Rattle.ground.specs.Sweep.{every}
use Rattle.ground.proofs.Sweep.{swept}
use Rattle.remainder.specs.Turned.{turned, Bytes}
use Rattle.characters.specs.Character.{word_of, preamble, stop}
use Rattle.characters.specs.Nibble.{nibble_word}
use Rattle.lines.specs.Line.{characters_of, line_of}
use Rattle.lines.proofs.Line.{length_characters}
use Rattle.promises.proofs.MasksOnWire.{turned_append}

-- the line bits of a nibble's bits: each bit and its complement
abbrev pub line_bits : ℕ → ℕ
line_bits nibble = bit_xor (nibble_word 0) (nibble_word nibble)

-- masks of bytes as masks of the line's words: two words a byte, and nothing of preamble and stop
unfoldable pub on_characters : List ℕ → List ℕ
on_characters [] = []
on_characters (m ∷ masks) = line_bits (m % 16) ∷ line_bits (m / 16) ∷ on_characters masks

unfoldable pub on_line : List ℕ → List ℕ
on_line masks = 0 ∷ (on_characters masks ++ (0 ∷ []))

bits_apart : ℕ → ℕ → Bool
bits_apart a b = eqb (nibble_word (bit_xor a b)) (bit_xor (nibble_word a) (line_bits b))

all_bits_apart : every (λ a. every (bits_apart a) 16) 16 ≡ true
unfolding bits_apart nibble_word word_of
all_bits_apart = refl

nibble_turned : (a b : ℕ) → a < 16 → b < 16 → bit_xor (nibble_word a) (line_bits b) ≡ nibble_word (bit_xor a b)
unfolding bits_apart
nibble_turned a b ha hb =
    sym (eqb-true (nibble_word (bit_xor a b)) (bit_xor (nibble_word a) (line_bits b))
    (swept (bits_apart a) 16 (swept (λ a. every (bits_apart a) 16) 16 all_bits_apart a ha) b hb))

characters_turned : (bytes masks : List ℕ) → length bytes ≡ length masks → Bytes bytes → Bytes masks
    → turned (characters_of bytes) (on_characters masks) ≡ characters_of (turned bytes masks)
unfolding characters_of on_characters turned
characters_turned [] [] e b m = refl
characters_turned [] (x ∷ masks) e b m = absurd (omega arith)
characters_turned (x ∷ bytes) [] e b m = absurd (omega arith)
characters_turned (x ∷ bytes) (y ∷ masks) e b m =
    let hx = b 0 in
    let hy = m 0 in
    let low : bit_xor (nibble_word (x % 16)) (line_bits (y % 16)) ≡ nibble_word (bit_xor x y % 16) =
    nibble_turned (x % 16) (y % 16) (omega arith) (omega arith) ∙ ap nibble_word (sym (xor_mod x y 4)) in
    let high : bit_xor (nibble_word (x / 16)) (line_bits (y / 16)) ≡ nibble_word (bit_xor x y / 16) =
    nibble_turned (x / 16) (y / 16) (omega arith) (omega arith) ∙ ap nibble_word (sym (xor_shr x y 4)) in
    ap₂ (λ (v w : ℕ). v ∷ w ∷ turned (characters_of bytes) (on_characters masks)) low high
    ∙ ap (λ (l : List ℕ). nibble_word (bit_xor x y % 16) ∷ nibble_word (bit_xor x y / 16) ∷ l)
    (characters_turned bytes masks (suc_inj e) (λ i. b (suc i)) (λ i. m (suc i)))

length_on_characters : (masks : List ℕ) → length (on_characters masks) ≡ 2 * length masks
unfolding on_characters
length_on_characters [] = refl
length_on_characters (m ∷ masks) = let h = length_on_characters masks in omega arith

pub length_on_line : (masks : List ℕ) → length (on_line masks) ≡ 2 * length masks + 2
unfolding on_line
length_on_line masks = omega (arith, length-append (on_characters masks) (0 ∷ []), length_on_characters masks)

pub line_turned : (bytes masks : List ℕ) → length bytes ≡ length masks → Bytes bytes → Bytes masks
    → turned (line_of bytes) (on_line masks) ≡ line_of (turned bytes masks)
unfolding line_of on_line turned
line_turned bytes masks e b m =
    let size : length (characters_of bytes) ≡ length (on_characters masks) = omega (arith, length_characters bytes, length_on_characters masks) in
    ap (λ (l : List ℕ). preamble ∷ l)
    (turned_append (characters_of bytes) (stop ∷ []) (on_characters masks) (0 ∷ []) size
    ∙ ap (λ (l : List ℕ). l ++ (stop ∷ [])) (characters_turned bytes masks e b m))

pub no_mask : (l : List ℕ) (n : ℕ) → turned l (replicate n 0) ≡ l
unfolding turned
no_mask [] n = refl
no_mask (x ∷ l) zero = refl
no_mask (x ∷ l) (suc n) = ap₂ (λ (y : ℕ) (k : List ℕ). y ∷ k) (xor_zero_r x) (no_mask l n)
