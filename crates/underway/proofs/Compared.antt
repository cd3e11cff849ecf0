-- A line held to some bytes, word by word, is held to the line of those bytes.
use Rattle.std.proofs.Common.{◌≡◌, ℕ, ◌+◌, ◌*◌, ◌/◌, ◌%◌, ◌<◌, Bool, true, false, ◌&&◌, eqb, List, length, get_or, sym, refl, ap, ◌∙◌, ap₂, arith, ext_get_or, eq-eqb, eqb-true}
use mathlib.Core.Bool.{false≢true}
use Rattle.ground.specs.Same.{same}
use Rattle.ground.proofs.Same.{same_self, same_false}
use Rattle.ground.proofs.Test.{and_left, and_right}
use Rattle.characters.specs.Character.{preamble, stop}
use Rattle.characters.specs.Nibble.{nibble_word}
use Rattle.lines.specs.Line.{line_of}
use Rattle.lines.proofs.Line.{length_line, low_word, high_word, last_word}
use Rattle.lines.proofs.Line.{by_place}
use Rattle.underway.specs.TakeUp.{byte_stands}

starts : (bytes : List ℕ) → get_or (line_of bytes) 0 0 ≡ preamble
unfolding line_of
starts bytes = refl

module _ (line bytes : List ℕ) where
  pub other_length : (length line ≡ 2 * length bytes + 2 → ⊥) → same line (line_of bytes) ≡ false
  other_length differ = same_false line (line_of bytes) (λ e. differ (ap length e ∙ length_line bytes))

  pub other_start : (get_or line 0 0 ≡ preamble → ⊥) → same line (line_of bytes) ≡ false
  other_start differ = same_false line (line_of bytes) (λ e. differ (ap (λ (l : List ℕ). get_or l 0 0) e ∙ starts bytes))

  low_place : (i : ℕ) → 2 * i + 1 ≡ 1 + 2 * i
  low_place i = omega arith

  high_place : (i : ℕ) → 2 * i + 2 ≡ 2 + 2 * i
  high_place i = omega arith

  -- a byte of the line of some bytes stands at its place
  stands : (i : ℕ) → i < length bytes → byte_stands (line_of bytes) i (get_or bytes i 0) ≡ true
  stands i h =
      ap₂ (λ (a b : Bool). a && b)
      (eq-eqb _ _ (ap (λ (k : ℕ). get_or (line_of bytes) k 0) (low_place i) ∙ low_word bytes i h))
      (eq-eqb _ _ (ap (λ (k : ℕ). get_or (line_of bytes) k 0) (high_place i) ∙ high_word bytes i h))

  pub other_byte : (i : ℕ) → i < length bytes → byte_stands line i (get_or bytes i 0) ≡ false → same line (line_of bytes) ≡ false
  other_byte i h fails =
      same_false line (line_of bytes)
      (λ e. false≢true (sym fails ∙ ap (λ (l : List ℕ). byte_stands l i (get_or bytes i 0)) e ∙ stands i h))

  -- all bytes stand: the last word decides
  pub all_but_last : length line ≡ 2 * length bytes + 2 → get_or line 0 0 ≡ preamble
      → ((i : ℕ) → i < length bytes → byte_stands line i (get_or bytes i 0) ≡ true)
      → eqb (get_or line (2 * length bytes + 1) 0) stop ≡ same line (line_of bytes)
  all_but_last size start bytewise = by_test (eqb (get_or line (2 * length bytes + 1) 0) stop) refl
    where
      last_place : 2 * length bytes + 1 ≡ 1 + 2 * length bytes
      last_place = omega arith

      at_low : (i : ℕ) → i < length bytes → get_or line (1 + 2 * i) 0 ≡ get_or (line_of bytes) (1 + 2 * i) 0
      at_low i h =
          ap (λ (k : ℕ). get_or line k 0) (sym (low_place i))
          ∙ eqb-true _ _ (and_left _ (eqb (get_or line (2 * i + 2) 0) (nibble_word (get_or bytes i 0 / 16))) (bytewise i h)) ∙ sym (low_word bytes i h)

      at_high : (i : ℕ) → i < length bytes → get_or line (2 + 2 * i) 0 ≡ get_or (line_of bytes) (2 + 2 * i) 0
      at_high i h =
          ap (λ (k : ℕ). get_or line k 0) (sym (high_place i))
          ∙ eqb-true _ _ (and_right (eqb (get_or line (2 * i + 1) 0) (nibble_word (get_or bytes i 0 % 16))) _ (bytewise i h)) ∙ sym (high_word bytes i h)

      by_test : (t : Bool) → eqb (get_or line (2 * length bytes + 1) 0) stop ≡ t → eqb (get_or line (2 * length bytes + 1) 0) stop ≡ same line (line_of bytes)
      by_test true e =
          let last : get_or line (1 + 2 * length bytes) 0 ≡ get_or (line_of bytes) (1 + 2 * length bytes) 0 =
          ap (λ (k : ℕ). get_or line k 0) (sym last_place) ∙ eqb-true _ _ e ∙ sym (last_word bytes) in
          let whole : line ≡ line_of bytes =
          ext_get_or 0 line (line_of bytes) (size ∙ sym (length_line bytes))
          (λ j h. by_place (λ (j : ℕ). get_or line j 0 ≡ get_or (line_of bytes) j 0) (length bytes) (start ∙ sym (starts bytes)) at_low at_high last j (omega arith)) in
          e ∙ sym (ap (λ (l : List ℕ). same l (line_of bytes)) whole ∙ same_self (line_of bytes))
      by_test false e =
          e ∙ sym (same_false line (line_of bytes)
          (λ whole. false≢true (sym e ∙ eq-eqb _ _ (ap₂ (λ (l : List ℕ) (k : ℕ). get_or l k 0) whole last_place ∙ last_word bytes))))
