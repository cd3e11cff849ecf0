-- Words turned into bytes and back, and bytes into words and back, are what they were; and how many there are of each.
use mathlib.Core.Path.{◌≡◌, refl, sym, ap, ap₂, ◌∙◌}
use mathlib.Core.List.{List, [], ◌∷◌, ◌++◌, append-nil}
use Prim.Native.Nat.{ℕ, zero, suc, ◌+◌, ◌*◌, ◌/◌, ◌%◌, ◌≤◌, ◌<◌}
use native.Mathlib.Nat.{not-suc-le-zero}
use native.Mathlib.Omega.{arith}
use lib.ListN.{length, get_or, take}
use lib.Seq.{take_all}
use Rattle.remainder.specs.Turned.{Bytes}
use Rattle.packing.specs.Words.{words_of, as_bytes, word_at}

pub length_bytes : (words : List ℕ) → length (as_bytes words) ≡ 2 * length words
unfolding as_bytes
length_bytes [] = refl
length_bytes (w ∷ words) = omega (arith, length_bytes words)

pub length_words : (bytes : List ℕ) → length (words_of bytes) ≡ length bytes / 2
unfolding words_of
length_words [] = refl
length_words (b ∷ []) = refl
length_words (low ∷ high ∷ rest) = omega (arith, length_words rest)

pub bytes_append : (xs ys : List ℕ) → as_bytes (xs ++ ys) ≡ as_bytes xs ++ as_bytes ys
unfolding as_bytes
bytes_append [] ys = refl
bytes_append (x ∷ xs) ys = ap (λ (l : List ℕ). x % 256 ∷ x / 256 ∷ l) (bytes_append xs ys)

-- word k is bytes 2k and 2k + 1
pub word_of : (bytes : List ℕ) (k : ℕ) → 2 * k + 1 < length bytes → get_or (words_of bytes) k 0 ≡ word_at bytes k
unfolding words_of
word_of [] k h = absurd (not-suc-le-zero h)
word_of (b ∷ []) k h = absurd (omega arith)
word_of (low ∷ high ∷ rest) zero h = refl
word_of (low ∷ high ∷ rest) (suc k) h =
    let even : suc (suc (2 * k)) ≡ 2 * suc k = omega arith in
    let odd : suc (suc (2 * k + 1)) ≡ 2 * suc k + 1 = omega arith in
    word_of rest k (omega arith) ∙ ap₂ (λ (i j : ℕ). get_or (low ∷ high ∷ rest) i 0 + 256 * get_or (low ∷ high ∷ rest) j 0) even odd

-- every word comes back, whatever stands behind their bytes
pub words_front : (words rest : List ℕ) → ((i : ℕ) → get_or words i 0 < 65536) → words_of (as_bytes words ++ rest) ≡ words ++ words_of rest
unfolding words_of as_bytes
words_front [] rest wide = refl
words_front (w ∷ words) rest wide = ap₂ (λ (x : ℕ) (l : List ℕ). x ∷ l) (omega (arith, wide 0)) (words_front words rest (λ i. wide (suc i)))

pub words_back : (words : List ℕ) → ((i : ℕ) → get_or words i 0 < 65536) → words_of (as_bytes words) ≡ words
unfolding words_of
words_back words wide = ap words_of (sym (append-nil (as_bytes words))) ∙ words_front words [] wide ∙ append-nil words

-- the bytes of the first words are the first bytes
pub bytes_front : (bytes : List ℕ) (n : ℕ) → 2 * n ≤ length bytes → Bytes bytes → as_bytes (take n (words_of bytes)) ≡ take (2 * n) bytes
unfolding words_of as_bytes
bytes_front bytes zero there small = refl
bytes_front [] (suc n) there small = absurd (omega arith)
bytes_front (b ∷ []) (suc n) there small = absurd (omega arith)
bytes_front (low ∷ high ∷ rest) (suc n) there small =
    let l : low < 256 = small 0 in
    let h : high < 256 = small 1 in
    let first : (low + 256 * high) % 256 ≡ low = omega arith in
    let second : (low + 256 * high) / 256 ≡ high = omega arith in
    let two : suc (suc (2 * n)) ≡ 2 * suc n = omega arith in
    ap₂ (λ (x y : ℕ). x ∷ y ∷ as_bytes (take n (words_of rest))) first second
    ∙ ap (λ (r : List ℕ). low ∷ high ∷ r) (bytes_front rest n (omega arith) (λ i. small (suc (suc i))))
    ∙ ap (λ (k : ℕ). take k (low ∷ high ∷ rest)) two

-- every byte comes back, where their number is even
pub bytes_back : (bytes : List ℕ) (n : ℕ) → length bytes ≡ 2 * n → Bytes bytes → as_bytes (words_of bytes) ≡ bytes
bytes_back bytes n even small =
    ap as_bytes (sym (take_all n (words_of bytes) (omega (arith, length_words bytes))))
    ∙ bytes_front bytes n (omega arith) small ∙ take_all (2 * n) bytes (omega arith)

-- a word is a word: two bytes make no more than 65,535
pub words_wide : (bytes : List ℕ) → Bytes bytes → (i : ℕ) → get_or (words_of bytes) i 0 < 65536
unfolding words_of
words_wide [] small i = omega arith
words_wide (b ∷ []) small i = omega arith
words_wide (low ∷ high ∷ rest) small zero =
    let l : low < 256 = small 0 in
    let h : high < 256 = small 1 in omega arith
words_wide (low ∷ high ∷ rest) small (suc i) = words_wide rest (λ j. small (suc (suc j))) i
