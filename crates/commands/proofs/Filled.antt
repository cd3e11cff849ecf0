-- Fill pairs stored behind the line of some bytes, from its stop character on: the line of the bytes and the pairs.
use mathlib.Core.Path.{◌≡◌, refl, sym, ap, ◌∙◌}
use mathlib.Core.List.{List, [], ◌∷◌, ◌++◌}
use Prim.Native.Nat.{ℕ, zero, suc, ◌+◌, ◌*◌, ◌≤◌, ◌<◌}
use native.Mathlib.Nat.{add-zero}
use native.Mathlib.Numerals.{add-one}
use native.Mathlib.Omega.{arith}
use lib.ListN.{length, set, length-append}
use lib.Seq.{sets, set-set}
use Rattle.ground.proofs.Lists.{sets_append}
use Rattle.characters.specs.Character.{preamble, stop}
use Rattle.characters.specs.Nibble.{nibble_word}
use Rattle.lines.specs.Line.{characters_of, line_of}
use Rattle.lines.specs.Write.{at_front}
use Rattle.lines.proofs.Line.{length_characters, length_line}
use Rattle.writing.specs.PutLine.{no_room, LinePut}
use Rattle.std.specs.Prelude.{Result, Ok, Err}
use Rattle.writing.specs.declared.NoRoom.{NoRoom}
use Rattle.writing.proofs.Stored.{characters_append, stored_all, refused, put_whole, written}
use Rattle.questions.specs.Bytes.{fill_pairs}
use Rattle.questions.proofs.Bytes.{length_pairs}

-- one pair: the characters of C2 and of D3
pub stored_pair : (l : List ℕ) (at a b c d : ℕ) → a ≡ nibble_word 0x2 → b ≡ nibble_word 0xC → c ≡ nibble_word 0x3 → d ≡ nibble_word 0xD
    → set (set (set (set l at a) (at + 1) b) (at + 2) c) (at + 3) d ≡ sets l at (characters_of (fill_pairs 1))
unfolding characters_of fill_pairs
stored_pair l at a b c d e f g h =
    let one : at + 1 ≡ suc at = omega arith in
    let two : at + 2 ≡ suc (suc at) = omega arith in
    let three : at + 3 ≡ suc (suc (suc at)) = omega arith in
    cc

-- ---- one more pair

pub fill_next : (k : ℕ) → fill_pairs (suc k) ≡ fill_pairs k ++ fill_pairs 1
unfolding fill_pairs
fill_next zero = refl
fill_next (suc k) = ap (λ (l : List ℕ). 0xC2 ∷ 0xD3 ∷ l) (fill_next k)

pub length_fill : (k : ℕ) → length (characters_of (fill_pairs k)) ≡ 4 * k
length_fill k = omega (arith, length_characters (fill_pairs k), length_pairs k)

pub pairs_next : (l : List ℕ) (start k : ℕ)
    → sets (sets l start (characters_of (fill_pairs k))) (start + 4 * k) (characters_of (fill_pairs 1)) ≡ sets l start (characters_of (fill_pairs (k + 1)))
pairs_next l start k =
    let front = characters_of (fill_pairs k) in
    sym (ap (λ (n : ℕ). sets l start (characters_of (fill_pairs n))) (add-one k)
    ∙ ap (λ (bytes : List ℕ). sets l start (characters_of bytes)) (fill_next k)
    ∙ ap (sets l start) (characters_append (fill_pairs k) (fill_pairs 1))
    ∙ sets_append l start front (characters_of (fill_pairs 1))
    ∙ ap (λ (n : ℕ). sets (sets l start front) (start + n) (characters_of (fill_pairs 1))) (length_fill k))

-- ---- the whole line

-- a store where a run of stores begins, made anew behind the run: of the first nothing is left
moved_behind : (l : List ℕ) (i x : ℕ) (xs : List ℕ) → set (sets (set l i x) i xs) (i + length xs) x ≡ set (sets l i xs) (i + length xs) x
moved_behind l i x [] =
    let here = add-zero i in
    ap (λ (k : ℕ). set (set l i x) k x) here ∙ set-set l i x x ∙ sym (ap (λ (k : ℕ). set l k x) here)
moved_behind l i x (y ∷ ys) = ap (λ (l : List ℕ). set (sets l (suc i) ys) (i + length (y ∷ ys)) x) (set-set l i x y)

-- where the pairs begin behind some bytes, and where they end
abbrev start : (head : List ℕ) → ℕ
start head = 2 * length head + 1

abbrev pub end : (head : List ℕ) (n : ℕ) → ℕ
end head n = start head + 4 * n

module _ (head out : List ℕ) (n : ℕ) where
  whole : length (head ++ fill_pairs n) ≡ length head + 2 * n
  whole = length-append head (fill_pairs n) ∙ ap (λ (k : ℕ). length head + k) (length_pairs n)

  pub filled_refused : length out ≤ end head n → LinePut (head ++ fill_pairs n) out out (Err no_room)
  filled_refused h = refused (head ++ fill_pairs n) out (omega (arith, whole))

  -- where there is room for the whole line there is room for that of the bytes alone
  line_first : (mid : List ℕ) (p : Result ℕ NoRoom) → end head n < length out → LinePut head out mid p → mid ≡ at_front (line_of head) out
  line_first mid p h put = put.leaves ∙ put_whole head out (omega (arith, length_line head))

  pub filled_written : (mid after : List ℕ) (p : Result ℕ NoRoom) → end head n < length out → LinePut head out mid p
      → after ≡ set (sets mid (start head) (characters_of (fill_pairs n))) (end head n) stop → LinePut (head ++ fill_pairs n) out after (Ok (end head n + 1))
  filled_written mid after p h put e =
      let from = start head in
      let to = end head n in
      let first = set out 0 preamble in
      let inner = sets first 1 (characters_of head) in
      let fill = characters_of (fill_pairs n) in
      let here : 1 + length (characters_of head) ≡ from = omega (arith, length_characters head) in
      let behind : from + length fill ≡ to = omega (arith, length_fill n) in
      let last : to ≡ 2 * length (head ++ fill_pairs n) + 1 = omega (arith, whole) in
      written (head ++ fill_pairs n) out after (to + 1) (omega (arith, whole)) (omega (arith, whole))
      (e ∙ ap (λ (l : List ℕ). set (sets l from fill) to stop) (line_first mid p h put ∙ sym (stored_all head out (omega arith)))
      ∙ ap (λ (k : ℕ). set (sets (set inner from stop) from fill) k stop) (sym behind)
      ∙ moved_behind inner from stop fill
      ∙ ap (λ (k : ℕ). set (sets inner from fill) k stop) (behind ∙ last)
      ∙ ap (λ (l : List ℕ). set l (2 * length (head ++ fill_pairs n) + 1) stop)
      (ap (λ (k : ℕ). sets inner k fill) (sym here) ∙ sym (sets_append first 1 (characters_of head) fill)
      ∙ ap (sets first 1) (sym (characters_append head (fill_pairs n))))
      ∙ stored_all (head ++ fill_pairs n) out (omega (arith, whole)))
