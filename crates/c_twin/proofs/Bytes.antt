-- The twin's words in the bytes that hold them: how many bytes a chain has, the words of a part, and words put into their places.
use mathlib.Core.Path.{◌≡◌, refl, sym, ap, ap₂, ◌∙◌}
use mathlib.Core.Bool.{true, ◌&&◌}
use mathlib.Core.List.{List, [], ◌∷◌, ◌++◌, append_assoc, append-nil}
use Prim.Native.Nat.{ℕ, zero, suc, ◌+◌, ◌*◌, ◌/◌, ◌%◌, ◌-◌, ◌≤◌}
use native.Mathlib.Numerals.{add-one}
use native.Mathlib.Omega.{arith}
use lib.Dec.{leb, eqb}
use lib.ListN.{length, take, drop, set, length-drop, drop_of_length-le}
use lib.Seq.{sets, sets-eq, take_all, drop-drop, length-take-le}
use borrow.Author.Tests.{eqb-true}
use Rattle.ground.proofs.Lists.{sets_front, part_to_end}
use Rattle.ground.proofs.Test.{and_right}
use Rattle.packing.specs.Words.{words_of, as_bytes, with_word}
use Rattle.packing.proofs.Back.{length_bytes, length_words}
use Rattle.twin.specs.Step.{registers_of}
use Rattle.c_twin.specs.TwinBytes.{chain_in}

pub chain_bytes : (n bytes : ℕ) → chain_in n bytes ≡ true → bytes ≡ 512 * n
chain_bytes n bytes chain = eqb-true bytes (512 * n) (and_right (leb 1 n && leb n 32) (eqb bytes (512 * n)) chain)

-- two bytes more for a word more
two_more : (a : ℕ) → 2 * suc a ≡ suc (suc (2 * a))
two_more a = omega arith

odd_more : (a : ℕ) → 2 * suc a + 1 ≡ suc (suc (2 * a + 1))
odd_more a = omega arith

-- ---- a part

words_drop : (a : ℕ) (bytes : List ℕ) → words_of (drop (2 * a) bytes) ≡ drop a (words_of bytes)
unfolding words_of
words_drop zero bytes = refl
words_drop (suc a) [] = ap (λ (k : ℕ). words_of (drop k [])) (two_more a)
words_drop (suc a) (b ∷ []) = ap (λ (k : ℕ). words_of (drop k (b ∷ []))) (two_more a)
words_drop (suc a) (low ∷ high ∷ rest) = ap (λ (k : ℕ). words_of (drop k (low ∷ high ∷ rest))) (two_more a) ∙ words_drop a rest

words_take : (m : ℕ) (bytes : List ℕ) → words_of (take (2 * m) bytes) ≡ take m (words_of bytes)
unfolding words_of
words_take zero bytes = refl
words_take (suc m) [] = ap (λ (k : ℕ). words_of (take k [])) (two_more m)
words_take (suc m) (b ∷ []) = ap (λ (k : ℕ). words_of (take k (b ∷ []))) (two_more m)
words_take (suc m) (low ∷ high ∷ rest) =
    ap (λ (k : ℕ). words_of (take k (low ∷ high ∷ rest))) (two_more m) ∙ ap (λ (l : List ℕ). (low + 256 * high) ∷ l) (words_take m rest)

-- all places stored anew: nothing of what was there
pub sets_whole : (vs l : List ℕ) → length vs ≡ length l → sets l 0 vs ≡ vs
sets_whole vs l all =
    let none : length l ≤ length vs = omega arith in
    sets_front vs l (omega arith) ∙ ap (λ (rest : List ℕ). vs ++ rest) (drop_of_length-le l none) ∙ append-nil vs

-- a device's registers are the words of its own 512 bytes
own_words : (memory : List ℕ) (k : ℕ) → words_of (take 512 (drop (512 * k) memory)) ≡ registers_of (words_of memory) k
own_words memory k =
    let place : 512 * k ≡ 2 * (256 * k) = omega arith in
    words_take 256 (drop (512 * k) memory) ∙ ap (λ (i : ℕ). take 256 (words_of (drop i memory))) place ∙ ap (take 256) (words_drop (256 * k) memory)

-- and so unpacked
pub own_unpacked : (memory blank registers : List ℕ) (k : ℕ) → 512 * k + 512 ≤ length memory → length blank ≡ 256
    → registers ≡ sets blank 0 (words_of (take (512 * k + 512 - 512 * k) (drop (512 * k) memory))) → registers ≡ registers_of (words_of memory) k
own_unpacked memory blank registers k there size unpacked =
    let all : 512 * k + 512 - 512 * k ≡ 512 = omega arith in
    let part = take 512 (drop (512 * k) memory) in
    let bytes : length part ≡ 512 = length-take-le 512 (drop (512 * k) memory) (omega (arith, length-drop (512 * k) memory)) in
    unpacked ∙ ap (λ (m : ℕ). sets blank 0 (words_of (take m (drop (512 * k) memory)))) all
    ∙ sets_whole (words_of part) blank (omega (arith, length_words part)) ∙ own_words memory k

-- ---- words in their places

word_set : (bytes : List ℕ) (i w : ℕ) → words_of (with_word bytes i w) ≡ set (words_of bytes) i w
unfolding words_of
word_set [] i w = refl
word_set (b ∷ []) zero w = refl
word_set (b ∷ []) (suc i) w = ap₂ (λ (j k : ℕ). words_of (set (set (b ∷ []) j (w % 256)) k (w / 256))) (two_more i) (odd_more i)
word_set (low ∷ high ∷ rest) zero w =
    let whole : w % 256 + 256 * (w / 256) ≡ w = omega arith in
    ap (λ (x : ℕ). x ∷ words_of rest) whole
word_set (low ∷ high ∷ rest) (suc i) w =
    ap₂ (λ (j k : ℕ). words_of (set (set (low ∷ high ∷ rest) j (w % 256)) k (w / 256))) (two_more i) (odd_more i)
    ∙ ap (λ (l : List ℕ). (low + 256 * high) ∷ l) (word_set rest i w)

pub words_sets : (bytes : List ℕ) (at : ℕ) (words : List ℕ) → words_of (sets bytes (2 * at) (as_bytes words)) ≡ sets (words_of bytes) at words
unfolding as_bytes
words_sets bytes at [] = refl
words_sets bytes at (w ∷ words) =
    ap (λ (k : ℕ). words_of (sets (set (set bytes (2 * at) (w % 256)) k (w / 256)) (suc (suc (2 * at))) (as_bytes words))) (sym (add-one (2 * at)))
    ∙ ap (λ (k : ℕ). words_of (sets (with_word bytes at w) k (as_bytes words))) (sym (two_more at))
    ∙ words_sets (with_word bytes at w) (suc at) words ∙ ap (λ (l : List ℕ). sets l (suc at) words) (word_set bytes at w)

-- words packed into the part from a place on: they are stored from that place on
pub packed_from : (memory words : List ℕ) (start : ℕ) → start + 2 * length words ≤ length memory → (part : List ℕ)
    → (let rest = take (length memory - start) (drop start memory) in part ≡ sets rest 0 (as_bytes (take (length rest / 2) words)))
    → take start memory ++ (part ++ drop (length memory - start) (drop start memory)) ≡ sets memory start (as_bytes words)
packed_from memory words start room part stored =
    let rest = drop start memory in
    let bytes = as_bytes words in
    let size : length rest ≡ length memory - start = length-drop start memory in
    let none : length rest ≤ length memory - start = omega arith in
    let all : take (length rest / 2) words ≡ words = take_all (length rest / 2) words (omega arith) in
    let is : part ≡ bytes ++ drop (start + length bytes) memory =
    stored ∙ ap (λ (l : List ℕ). sets l 0 (as_bytes (take (length l / 2) words))) (part_to_end memory start) ∙ ap (λ (l : List ℕ). sets rest 0 (as_bytes l)) all
    ∙ sets_front bytes rest (omega (arith, length_bytes words)) ∙ ap (λ (l : List ℕ). bytes ++ l) (drop-drop (length bytes) start memory) in
    ap (λ (l : List ℕ). take start memory ++ l) (ap (λ (l : List ℕ). part ++ l) (drop_of_length-le rest none) ∙ append-nil part ∙ is)
    ∙ sym (append_assoc (take start memory) bytes (drop (start + length bytes) memory)) ∙ sym (sets-eq bytes memory start (omega (arith, length_bytes words)))
