-- Words laid as bytes, one run behind the other: the characters of some bytes, of fill pairs, and the whole line.
use mathlib.Core.Path.{◌≡◌, refl, sym, ap, ◌∙◌}
use mathlib.Core.List.{List, [], ◌∷◌, ◌++◌}
use Prim.Native.Nat.{ℕ, suc, ◌+◌, ◌*◌, ◌/◌, ◌%◌, ◌<◌}
use native.Mathlib.Numerals.{add-one}
use native.Mathlib.Omega.{arith}
use lib.ListN.{length, get_or, take, set, length-append}
use lib.Seq.{sets, take-suc, length-take-le}
use Rattle.ground.proofs.Lists.{sets_append}
use Rattle.characters.specs.Character.{word_of, preamble, stop}
use Rattle.characters.specs.Nibble.{nibble_word}
use Rattle.lines.specs.Line.{characters_of, line_of}
use Rattle.lines.proofs.Line.{length_characters}
use Rattle.writing.proofs.Stored.{characters_append}
use Rattle.packing.specs.Words.{as_bytes}
use Rattle.packing.proofs.Back.{length_bytes, bytes_append}
use Rattle.questions.specs.Bytes.{fill_pairs}
use Rattle.commands.proofs.Filled.{fill_next, length_fill}
use Rattle.c_commands.specs.CommandBytes.{laid}

-- two runs of words
laid_append : (out : List ℕ) (at : ℕ) (xs ys : List ℕ) → laid out at (xs ++ ys) ≡ laid (laid out at xs) (at + 2 * length xs) ys
laid_append out at xs ys =
    ap (sets out at) (bytes_append xs ys) ∙ sets_append out at (as_bytes xs) (as_bytes ys)
    ∙ ap (λ (n : ℕ). sets (sets out at (as_bytes xs)) (at + n) (as_bytes ys)) (length_bytes xs)

-- the second run's place, counted otherwise
laid_behind : (out : List ℕ) (at : ℕ) (xs ys : List ℕ) (to : ℕ) → to ≡ at + 2 * length xs → laid (laid out at xs) to ys ≡ laid out at (xs ++ ys)
laid_behind out at xs ys to e = ap (λ (n : ℕ). laid (laid out at xs) n ys) e ∙ sym (laid_append out at xs ys)

-- ---- one word, one byte, one fill pair

pub laid_word : (out : List ℕ) (at w : ℕ) → set (set out at (w % 256)) (at + 1) (w / 256) ≡ laid out at (w ∷ [])
unfolding as_bytes
laid_word out at w = ap (λ (n : ℕ). set (set out at (w % 256)) n (w / 256)) (add-one at)

pub laid_byte : (out : List ℕ) (at b : ℕ) → laid (laid out at (nibble_word (b % 16) ∷ [])) (at + 2) (nibble_word (b / 16) ∷ []) ≡ laid out at (characters_of (b ∷ []))
unfolding characters_of
laid_byte out at b = laid_behind out at (nibble_word (b % 16) ∷ []) (nibble_word (b / 16) ∷ []) (at + 2) refl

stored_eight : (l : List ℕ) (at a b c d e f g h : ℕ)
    → set (set (set (set (set (set (set (set l at a) (at + 1) b) (at + 2) c) (at + 3) d) (at + 4) e) (at + 5) f) (at + 6) g) (at + 7) h
    ≡ sets l at (a ∷ b ∷ c ∷ d ∷ e ∷ f ∷ g ∷ h ∷ [])
stored_eight l at a b c d e f g h =
    let one : at + 1 ≡ suc at = omega arith in
    let two : at + 2 ≡ suc (suc at) = omega arith in
    let three : at + 3 ≡ suc (suc (suc at)) = omega arith in
    let four : at + 4 ≡ suc (suc (suc (suc at))) = omega arith in
    let five : at + 5 ≡ suc (suc (suc (suc (suc at)))) = omega arith in
    let six : at + 6 ≡ suc (suc (suc (suc (suc (suc at))))) = omega arith in
    let seven : at + 7 ≡ suc (suc (suc (suc (suc (suc (suc at)))))) = omega arith in
    cc

pair_bytes : as_bytes (characters_of (fill_pairs 1)) ≡ 0x4C ∷ 0x0D ∷ 0xB4 ∷ 0x0C ∷ 0x4A ∷ 0x0D ∷ 0xB2 ∷ 0x0C ∷ []
unfolding as_bytes characters_of fill_pairs nibble_word word_of
pair_bytes = refl

pub laid_pair : (l : List ℕ) (at : ℕ)
    → set (set (set (set (set (set (set (set l at 0x4C) (at + 1) 0x0D) (at + 2) 0xB4) (at + 3) 0x0C) (at + 4) 0x4A) (at + 5) 0x0D) (at + 6) 0xB2) (at + 7) 0x0C
    ≡ laid l at (characters_of (fill_pairs 1))
laid_pair l at = stored_eight l at 0x4C 0x0D 0xB4 0x0C 0x4A 0x0D 0xB2 0x0C ∙ ap (sets l at) (sym pair_bytes)

-- ---- one more

pub bytes_next : (out bytes : List ℕ) (i : ℕ) → i < length bytes
    → laid (laid out 2 (characters_of (take i bytes))) (4 * i + 2) (characters_of (get_or bytes i 0 ∷ [])) ≡ laid out 2 (characters_of (take (i + 1) bytes))
bytes_next out bytes i h =
    let front = take i bytes in
    let last = get_or bytes i 0 ∷ [] in
    laid_behind out 2 (characters_of front) (characters_of last) (4 * i + 2)
    (omega (arith, length_characters front, length-take-le i bytes (omega arith)))
    ∙ sym (ap (λ (l : List ℕ). laid out 2 (characters_of l)) (ap (λ (k : ℕ). take k bytes) (add-one i) ∙ take-suc bytes i 0 h)
    ∙ ap (laid out 2) (characters_append front last))

pub pairs_next : (out : List ℕ) (start k : ℕ)
    → laid (laid out start (characters_of (fill_pairs k))) (start + 8 * k) (characters_of (fill_pairs 1)) ≡ laid out start (characters_of (fill_pairs (k + 1)))
pairs_next out start k =
    laid_behind out start (characters_of (fill_pairs k)) (characters_of (fill_pairs 1)) (start + 8 * k) (omega (arith, length_fill k))
    ∙ sym (ap (λ (n : ℕ). laid out start (characters_of (fill_pairs n))) (add-one k)
    ∙ ap (λ (bytes : List ℕ). laid out start (characters_of bytes)) (fill_next k)
    ∙ ap (laid out start) (characters_append (fill_pairs k) (fill_pairs 1)))

-- ---- the whole line

pub laid_line : (out head : List ℕ) (n : ℕ)
    → laid (laid (laid (laid out 0 (preamble ∷ [])) 2 (characters_of head)) (4 * length head + 2) (characters_of (fill_pairs n))) (4 * length head + 2 + 8 * n) (stop ∷ [])
    ≡ laid out 0 (line_of (head ++ fill_pairs n))
unfolding line_of
laid_line out head n =
    let first = laid out 0 (preamble ∷ []) in
    let inner = characters_of head in
    let fill = characters_of (fill_pairs n) in
    ap (λ (l : List ℕ). laid l (4 * length head + 2 + 8 * n) (stop ∷ []))
    (laid_behind first 2 inner fill (4 * length head + 2) (omega (arith, length_characters head))
    ∙ ap (laid first 2) (sym (characters_append head (fill_pairs n))))
    ∙ laid_behind first 2 (characters_of (head ++ fill_pairs n)) (stop ∷ []) (4 * length head + 2 + 8 * n)
    (omega (arith, ap (λ (l : List ℕ). length l) (characters_append head (fill_pairs n)), length-append inner fill, length_characters head, length_fill n))
    ∙ laid_behind out 0 (preamble ∷ []) (characters_of (head ++ fill_pairs n) ++ (stop ∷ [])) 2 refl
