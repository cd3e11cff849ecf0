-- A line taken into lent words: all of it at their front, or, where its bytes are odd in number or it is too long, none of it. And words stored
-- as bytes.
use mathlib.Core.Path.{◌≡◌, refl, sym, ap, ◌∙◌}
use mathlib.Core.Bool.{Bool, true, false, cond}
use mathlib.Core.Logic.{◌⊎◌, inl, inr}
use mathlib.Core.List.{List, [], ◌++◌}
use Prim.Native.Nat.{ℕ, ◌/◌, ◌%◌, ◌≤◌, ◌<◌}
use native.Mathlib.Omega.{arith}
use lib.Dec.{leb}
use lib.ListN.{length, take, drop}
use lib.Seq.{sets, take_at, take_all}
use borrow.Author.Tests.{leb-true, leb-false, le-leb, lt-leb, eq-eqb, ne_eqb}
use Rattle.ground.proofs.Lists.{sets_front}
use Rattle.packing.specs.Words.{words_of, as_bytes, line_on, line_in, LineTaken}
use Rattle.packing.proofs.Back.{length_words, length_bytes}

-- ---- the line of some bytes

pub even_line : (bytes : List ℕ) → length bytes % 2 ≡ 0 → line_on bytes ≡ words_of bytes
even_line bytes even = ap (λ (t : Bool). cond t (words_of bytes) []) (eq-eqb (length bytes % 2) 0 even)

odd_line : (bytes : List ℕ) → (length bytes % 2 ≡ 0 → ⊥) → line_on bytes ≡ []
odd_line bytes odd = ap (λ (t : Bool). cond t (words_of bytes) []) (ne_eqb (length bytes % 2) 0 odd)

module _ (room : ℕ) (bytes : List ℕ) where
  pub whole_line : length (line_on bytes) ≤ room → line_in room bytes ≡ line_on bytes
  unfolding line_in
  whole_line fits = ap (λ (t : Bool). cond t (line_on bytes) []) (le-leb (length (line_on bytes)) room fits)

  too_long : room < length (line_on bytes) → line_in room bytes ≡ []
  unfolding line_in
  too_long long = ap (λ (t : Bool). cond t (line_on bytes) []) (lt-leb (length (line_on bytes)) room long)

  -- all of it or none
  pub whole_or_none : (line_in room bytes ≡ line_on bytes) ⊎ ((line_in room bytes ≡ []) × (room < length (line_on bytes)))
  whole_or_none = by_test (leb (length (line_on bytes)) room) refl
    where
      by_test : (t : Bool) → leb (length (line_on bytes)) room ≡ t → (line_in room bytes ≡ line_on bytes) ⊎ ((line_in room bytes ≡ []) × (room < length (line_on bytes)))
      by_test true fits = inl (whole_line (leb-true (length (line_on bytes)) room fits))
      by_test false long = let more = leb-false (length (line_on bytes)) room long in inr (too_long more, more)

  pub taken_most : length (line_in room bytes) ≤ room
  taken_most =
      by_test (leb (length (line_on bytes)) room) refl
    where
      by_test : (t : Bool) → leb (length (line_on bytes)) room ≡ t → length (line_in room bytes) ≤ room
      by_test true fits = omega (arith, ap length (whole_line (leb-true (length (line_on bytes)) room fits)), leb-true (length (line_on bytes)) room fits)
      by_test false long = omega (arith, ap length (too_long (leb-false (length (line_on bytes)) room long)))

-- ---- the call

module _ (bytes words : List ℕ) where
  taken_as : (line after : List ℕ) (count : ℕ) → line_in (length words) bytes ≡ line → count ≡ length line → after ≡ sets words 0 line → LineTaken bytes words after count
  taken_as line after count is counts leaves = record { counts = counts ∙ sym (ap length is); leaves = leaves ∙ sym (ap (sets words 0) is) }

  pub odd_not_taken : (length bytes % 2 ≡ 0 → ⊥) → LineTaken bytes words words 0
  odd_not_taken odd =
      let none = odd_line bytes odd in
      taken_as [] words 0 (whole_line (length words) bytes (omega (arith, ap length none)) ∙ none) refl refl

  pub long_not_taken : length bytes % 2 ≡ 0 → length words < length bytes / 2 → LineTaken bytes words words 0
  long_not_taken even long =
      taken_as [] words 0 (too_long (length words) bytes (omega (arith, ap length (even_line bytes even), length_words bytes))) refl refl

  pub line_taken : (after : List ℕ) → length bytes % 2 ≡ 0 → length bytes / 2 ≤ length words → after ≡ sets words 0 (words_of bytes)
      → LineTaken bytes words after (length bytes / 2)
  line_taken after even fits stored =
      let line = even_line bytes even in
      let room : length (line_on bytes) ≤ length words = omega (arith, ap length line, length_words bytes) in
      taken_as (words_of bytes) after (length bytes / 2) (whole_line (length words) bytes room ∙ line) (sym (length_words bytes)) stored

pub line_front : (bytes before after : List ℕ) (r : ℕ) → LineTaken bytes before after r → take r after ≡ line_in (length before) bytes
line_front bytes before after r taken =
    let line = line_in (length before) bytes in
    ap (take r) (taken.leaves ∙ sets_front line before (taken_most (length before) bytes)) ∙ take_at line (drop (length line) before) r (sym taken.counts)

-- ---- words stored where there is room for all of them

pub packed_front : (words out : List ℕ) → length words ≤ length out / 2 → sets out 0 (as_bytes (take (length out / 2) words)) ≡ as_bytes words ++ drop (length (as_bytes words)) out
packed_front words out fits =
    ap (λ (l : List ℕ). sets out 0 (as_bytes l)) (take_all (length out / 2) words fits)
    ∙ sets_front (as_bytes words) out (omega (arith, length_bytes words))
