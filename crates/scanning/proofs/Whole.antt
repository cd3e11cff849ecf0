-- What rows 4 to 6 of "Turned away" amount to: a line passes CHARACTER, FRAME and MANCHESTER, and has an even number of words, exactly
-- where it is the line of some bytes, and then it is the line of its own bytes.
use mathlib.Core.Path.{◌≡◌, sym, ap, ◌∙◌}
use mathlib.Core.Bool.{true}
use mathlib.Core.List.{List}
use Prim.Native.Nat.{ℕ, ◌+◌, ◌-◌, ◌*◌, ◌/◌, ◌%◌, ◌≤◌, ◌<◌}
use native.Mathlib.Omega.{arith}
use lib.ListN.{length, get_or}
use lib.Seq.{ext_get_or}
use borrow.Author.Tests.{eq-eqb}
use Rattle.remainder.specs.Turned.{Bytes}
use Rattle.characters.specs.Character.{stop}
use Rattle.character_check.specs.Check.{is_character}
use Rattle.characters.specs.Nibble.{nibble_word, true_bits, is_nibble}
use Rattle.characters.proofs.Nibble.{nibble_nibble, nibble_word_lem, true_bits_lt}
use Rattle.character_check.proofs.Pass.{preamble_character, stop_character, nibble_character}
use Rattle.scanning.specs.Place.{first_no_character, first_no_nibble}
use Rattle.lines.specs.Line.{line_of, byte_at, bytes_of}
use Rattle.scanning.specs.Frame.{framed}
use Rattle.std.specs.Prelude.{None}
use Rattle.scanning.proofs.FirstPlace.{passes_nowhere, nowhere_passes, characters_along, nibbles_along}
use Rattle.scanning.proofs.Ends.{framed_ends, first_preamble, last_stop}
use Rattle.lines.proofs.Line.{byte_count, by_place, length_line, low_word, high_word, last_word, length_bytes, bytes_at}

-- the three rows
pub record Passes (line : List ℕ) : Type 0 where
  pub characters : first_no_character line ≡ None
  pub frame : framed line ≡ true
  pub nibbles : first_no_nibble line ≡ None

-- ---- the line of some bytes passes

module _ (bytes : List ℕ) (b : Bytes bytes) where
  low_nibble : (i : ℕ) → get_or bytes i 0 % 16 < 16
  low_nibble i = omega arith

  high_nibble : (i : ℕ) → get_or bytes i 0 / 16 < 16
  high_nibble i = let h = b i in omega arith

  every_character : (j : ℕ) → j < 2 * length bytes + 2 → is_character (get_or (line_of bytes) j 0) ≡ true
  unfolding line_of
  every_character =
      by_place (λ (j : ℕ). is_character (get_or (line_of bytes) j 0) ≡ true) (length bytes) preamble_character
      (λ i h. ap is_character (low_word bytes i h) ∙ nibble_character (get_or bytes i 0 % 16) (low_nibble i))
      (λ i h. ap is_character (high_word bytes i h) ∙ nibble_character (get_or bytes i 0 / 16) (high_nibble i))
      (ap is_character (last_word bytes) ∙ stop_character)

  inner_nibble : (j : ℕ) → j < 2 * length bytes + 2 → 1 ≤ j → j ≤ 2 * length bytes → is_nibble (get_or (line_of bytes) j 0) ≡ true
  inner_nibble =
      by_place (λ (j : ℕ). 1 ≤ j → j ≤ 2 * length bytes → is_nibble (get_or (line_of bytes) j 0) ≡ true) (length bytes)
      (λ lo hi. absurd (omega arith))
      (λ i h lo hi. ap is_nibble (low_word bytes i h) ∙ nibble_nibble (get_or bytes i 0 % 16) (low_nibble i))
      (λ i h lo hi. ap is_nibble (high_word bytes i h) ∙ nibble_nibble (get_or bytes i 0 / 16) (high_nibble i))
      (λ lo hi. absurd (omega arith))

  line_framed : framed (line_of bytes) ≡ true
  unfolding line_of
  line_framed =
      let end : length (line_of bytes) - 1 ≡ 1 + 2 * length bytes = omega (arith, length_line bytes) in
      framed_ends (line_of bytes) ∙ eq-eqb (get_or (line_of bytes) (length (line_of bytes) - 1) 0) stop (ap (λ (k : ℕ). get_or (line_of bytes) k 0) end ∙ last_word bytes)

  pub line_passes : Passes (line_of bytes)
  line_passes =
      let words = length_line bytes in
      record {
        characters = characters_along (line_of bytes) ∙ passes_nowhere is_character (line_of bytes) 0 (length (line_of bytes)) (λ j lo hi. every_character j (omega arith));
        frame = line_framed;
        nibbles = nibbles_along (line_of bytes) ∙ passes_nowhere is_nibble (line_of bytes) 1 (length (line_of bytes) - 2) (λ j lo hi. inner_nibble j (omega arith) lo (omega arith));
      }

-- ---- a line that passes is the line of its own bytes

low_of : (x y : ℕ) → x < 16 → (x + 16 * y) % 16 ≡ x
low_of x y h = omega arith

high_of : (x y : ℕ) → x < 16 → (x + 16 * y) / 16 ≡ y
high_of x y h = omega arith

module _ (line : List ℕ) (n : ℕ) (even : length line ≡ 2 * n + 2) (p : Passes line) where
  count : byte_count line ≡ n
  count = omega arith

  is_nibble_lem : (j : ℕ) → 1 ≤ j → j ≤ 2 * n → get_or line j 0 ≡ nibble_word (true_bits (get_or line j 0))
  is_nibble_lem j lo hi =
      nibble_word_lem (get_or line j 0) (nowhere_passes is_nibble line 1 (length line - 2) (sym (nibbles_along line) ∙ p.nibbles) j lo (omega arith))

  word_bits : ℕ → ℕ
  word_bits j = true_bits (get_or line j 0)

  byte : (i : ℕ) → i < n → get_or (bytes_of line) i 0 ≡ word_bits (1 + 2 * i) + 16 * word_bits (2 + 2 * i)
  unfolding byte_at word_bits
  byte i h = bytes_at line i (omega (arith, count))

  own_low : (i : ℕ) → i < n → get_or line (1 + 2 * i) 0 ≡ get_or (line_of (bytes_of line)) (1 + 2 * i) 0
  unfolding word_bits
  own_low i h =
      is_nibble_lem (1 + 2 * i) (omega arith) (omega arith)
      ∙ ap nibble_word (sym (ap (λ (x : ℕ). x % 16) (byte i h) ∙ low_of (word_bits (1 + 2 * i)) (word_bits (2 + 2 * i)) (true_bits_lt _)))
      ∙ sym (low_word (bytes_of line) i (omega (arith, count, length_bytes line)))

  own_high : (i : ℕ) → i < n → get_or line (2 + 2 * i) 0 ≡ get_or (line_of (bytes_of line)) (2 + 2 * i) 0
  unfolding word_bits
  own_high i h =
      is_nibble_lem (2 + 2 * i) (omega arith) (omega arith)
      ∙ ap nibble_word (sym (ap (λ (x : ℕ). x / 16) (byte i h) ∙ high_of (word_bits (1 + 2 * i)) (word_bits (2 + 2 * i)) (true_bits_lt _)))
      ∙ sym (high_word (bytes_of line) i (omega (arith, count, length_bytes line)))

  own_last : get_or line (1 + 2 * n) 0 ≡ get_or (line_of (bytes_of line)) (1 + 2 * n) 0
  own_last =
      let end : 1 + 2 * n ≡ length line - 1 = omega arith in
      let own_end : 1 + 2 * n ≡ 1 + 2 * length (bytes_of line) = omega (arith, count, length_bytes line) in
      ap (λ (k : ℕ). get_or line k 0) end ∙ last_stop line p.frame
      ∙ sym (ap (λ (k : ℕ). get_or (line_of (bytes_of line)) k 0) own_end ∙ last_word (bytes_of line))

  own_first : get_or line 0 0 ≡ get_or (line_of (bytes_of line)) 0 0
  unfolding line_of
  own_first = first_preamble line p.frame

  pub own_bytes : line ≡ line_of (bytes_of line)
  own_bytes =
      ext_get_or 0 line (line_of (bytes_of line)) (omega (arith, count, length_line (bytes_of line), length_bytes line))
      (λ j h. by_place (λ (j : ℕ). get_or line j 0 ≡ get_or (line_of (bytes_of line)) j 0) n own_first own_low own_high own_last j (omega arith))
