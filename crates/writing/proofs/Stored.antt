-- A line stored word by word, byte after byte, is the line at the front of the lent words.
use mathlib.Core.Path.{◌≡◌, refl, sym, ap, ap₂, ◌∙◌}
use mathlib.Core.Bool.{Bool, true, false, cond}
use mathlib.Core.List.{List, [], ◌∷◌, ◌++◌}
use Prim.Native.Nat.{ℕ, suc, ◌+◌, ◌*◌, ◌/◌, ◌%◌, ◌≤◌, ◌<◌}
use native.Mathlib.Numerals.{add-one}
use native.Mathlib.Omega.{arith}
use lib.Dec.{leb}
use lib.ListN.{length, get_or, take, set}
use lib.Seq.{sets, take-suc, length-take-le}
use borrow.Author.Tests.{le-leb, lt-leb}
use Rattle.ground.proofs.Lists.{sets_append, sets_front}
use Rattle.characters.specs.Character.{preamble, stop}
use Rattle.characters.specs.Nibble.{nibble_word}
use Rattle.lines.specs.Line.{characters_of, line_of}
use Rattle.lines.specs.Write.{at_front, left_by}
use Rattle.writing.specs.PutLine.{no_room, put_of, put_number, out_of, LinePut, with_byte}
use Rattle.std.specs.Prelude.{Result, Ok, Err}
use Rattle.writing.specs.declared.NoRoom.{NoRoom}
use Rattle.lines.proofs.Line.{length_characters, length_line}

-- the characters of two runs of bytes
pub characters_append : (xs ys : List ℕ) → characters_of (xs ++ ys) ≡ characters_of xs ++ characters_of ys
unfolding characters_of
characters_append [] ys = refl
characters_append (x ∷ xs) ys = ap (λ (l : List ℕ). nibble_word (x % 16) ∷ nibble_word (x / 16) ∷ l) (characters_append xs ys)

module _ (bytes words : List ℕ) where
  -- the characters of the first i bytes, stored behind the first word
  abbrev pub so_far : ℕ → List ℕ
  so_far i = sets words 1 (characters_of (take i bytes))

  -- one more byte
  pub stored_next : (i : ℕ) → i < length bytes → with_byte (so_far i) i (get_or bytes i 0) ≡ so_far (i + 1)
  unfolding characters_of
  stored_next i h =
      let b = get_or bytes i 0 in
      let front = characters_of (take i bytes) in
      let places : 1 + length front ≡ 2 * i + 1 = omega (arith, length_characters (take i bytes), length-take-le i bytes (omega arith)) in
      let next : suc (1 + length front) ≡ 2 * i + 2 = omega arith in
      sym (ap (λ (l : List ℕ). sets words 1 (characters_of l)) (ap (λ (k : ℕ). take k bytes) (add-one i) ∙ take-suc bytes i 0 h)
      ∙ ap (sets words 1) (characters_append (take i bytes) (b ∷ []))
      ∙ sets_append words 1 front (nibble_word (b % 16) ∷ nibble_word (b / 16) ∷ [])
      ∙ ap₂ (λ (k k' : ℕ). set (set (sets words 1 front) k (nibble_word (b % 16))) k' (nibble_word (b / 16))) places next)

-- all of them, between preamble and stop
pub stored_all : (bytes out : List ℕ) → 2 * length bytes + 2 ≤ length out
    → set (sets (set out 0 preamble) 1 (characters_of bytes)) (2 * length bytes + 1) stop ≡ at_front (line_of bytes) out
unfolding line_of
stored_all bytes out h =
    let place : 1 + length (characters_of bytes) ≡ 2 * length bytes + 1 = omega (arith, length_characters bytes) in
    let room : length (line_of bytes) ≤ length out = omega (arith, length_line bytes) in
    ap (λ (k : ℕ). set (sets (set out 0 preamble) 1 (characters_of bytes)) k stop) (sym place)
    ∙ sym (sets_append (set out 0 preamble) 1 (characters_of bytes) (stop ∷ []))
    ∙ sets_front (line_of bytes) out room

-- ---- the two answers

module _ (bytes out : List ℕ) where
  says_by : (t : Bool) → leb (length (line_of bytes)) (length out) ≡ t → put_of bytes out ≡ cond t (Ok (length (line_of bytes))) (Err no_room)
  unfolding put_of
  says_by t e = ap (λ (t : Bool). cond t (Ok (length (line_of bytes))) (Err no_room)) e

  leaves_by : (p : Result ℕ NoRoom) → put_of bytes out ≡ p → out_of bytes out ≡ left_by (put_number p) (at_front (line_of bytes) out) out
  unfolding out_of
  leaves_by p is = ap (λ (p : Result ℕ NoRoom). left_by (put_number p) (at_front (line_of bytes) out) out) is

  pub refused : length out < 2 * length bytes + 2 → LinePut bytes out out (Err no_room)
  refused h =
      let less : length out < length (line_of bytes) = omega (arith, length_line bytes) in
      let is : put_of bytes out ≡ Err no_room = says_by false (lt-leb (length (line_of bytes)) (length out) less) in
      record { says = sym is; leaves = sym (leaves_by (Err no_room) is) }

  -- where there is room
  fits : length (line_of bytes) ≤ length out → put_of bytes out ≡ Ok (length (line_of bytes))
  fits room = says_by true (le-leb (length (line_of bytes)) (length out) room)

  pub put_whole : length (line_of bytes) ≤ length out → out_of bytes out ≡ at_front (line_of bytes) out
  put_whole room = leaves_by (Ok (length (line_of bytes))) (fits room)

  pub written : (after : List ℕ) (n : ℕ) → 2 * length bytes + 2 ≤ length out → n ≡ 2 * length bytes + 2
      → after ≡ at_front (line_of bytes) out → LinePut bytes out after (Ok n)
  written after n h e s =
      let room : length (line_of bytes) ≤ length out = omega (arith, length_line bytes) in
      record { says = ap Ok (e ∙ sym (length_line bytes)) ∙ sym (fits room); leaves = s ∙ sym (put_whole room) }
