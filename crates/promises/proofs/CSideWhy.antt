-- A packed reason is taken apart: each part has its own bits, and none runs over into the next.
use mathlib.Core.Path.{◌≡◌, refl, sym, ap, ◌∙◌, subst}
use mathlib.Core.Bool.{Bool, true, false}
use mathlib.Core.List.{List}
use Prim.Native.Nat.{ℕ, ◌+◌, ◌*◌, ◌/◌, ◌%◌, ◌≤◌, ◌<◌}
use native.Mathlib.Omega.{arith}
use lib.Dec.{eqb}
use lib.ListN.{length}
use borrow.Author.Tests.{eqb-true, eqb-false, ne_eqb}
use Rattle.std.specs.Prelude.{Result, Ok, Err, Option, Some, None}
use Rattle.packing.specs.Words.{line_on}
use Rattle.packing.proofs.Back.{length_words}
use Rattle.packing.proofs.Taken.{even_line}
use Rattle.readings.specs.Reading.{refusal_number}
use Rattle.readings.specs.declared.Refusal.{Refusal}
use Rattle.reasons.specs.Reason.{found, reason_number}
use Rattle.reasons.specs.declared.Field.TheVariants as field
use Rattle.reasons.specs.declared.Spot.{Spot}
use Rattle.reasons.specs.declared.Spot.TheVariants.{Asked, Whole, Word, Byte}
use Rattle.reasons.specs.declared.Because.{Because}
use Rattle.c_reasons.specs.Explain.{in_bytes, reason_on, is_one, right_of, sixteen, packed_because, packed_reason}
use Rattle.promises.specs.CSideWhy.{RightParts, WhyParts, PackedAs, PackedWhy, CSideWhy}
use Rattle.promises.proofs.WhyNumbers.{small_in_bytes}

-- ---- six parts side by side

module _ (a h o p s t : ℕ) (ha : a < 256) (hh : h < 8) (ho : o < 2) (hp : p < 65536) (hs : s < 65536) where
  abbrev all : ℕ
  all = a + 256 * h + 2048 * o + 65536 * p + 4294967296 * s + 281474976710656 * t

  number_of : all % 256 ≡ a
  number_of = omega arith

  how_of : all / 256 % 8 ≡ h
  how_of =
      let above : all / 256 ≡ h + 8 * o + 256 * p + 16777216 * s + 1099511627776 * t = omega arith in
      let low : (h + 8 * o + 256 * p + 16777216 * s + 1099511627776 * t) % 8 ≡ h = omega arith in
      ap (λ (x : ℕ). x % 8) above ∙ low

  one_of : all / 2048 % 32 ≡ o
  one_of =
      let above : all / 2048 ≡ o + 32 * p + 2097152 * s + 137438953472 * t = omega arith in
      let low : (o + 32 * p + 2097152 * s + 137438953472 * t) % 32 ≡ o = omega arith in
      ap (λ (x : ℕ). x % 32) above ∙ low

  place_of : all / 65536 % 65536 ≡ p
  place_of =
      let above : all / 65536 ≡ p + 65536 * s + 4294967296 * t = omega arith in
      let low : (p + 65536 * s + 4294967296 * t) % 65536 ≡ p = omega arith in
      ap (λ (x : ℕ). x % 65536) above ∙ low

  stood_of : all / 4294967296 % 65536 ≡ s
  stood_of =
      let above : all / 4294967296 ≡ s + 65536 * t = omega arith in
      let low : (s + 65536 * t) % 65536 ≡ s = omega arith in
      ap (λ (x : ℕ). x % 65536) above ∙ low

  right_of_lem : all / 281474976710656 ≡ t
  right_of_lem = omega arith

-- ---- a reason packed, by its spot

one_small : (right : Option ℕ) → is_one right < 2
one_small (Some x) = omega arith
one_small None = omega arith

right_parts : (r : ℕ) (right : Option ℕ) → r / 2048 % 32 ≡ is_one right → r / 281474976710656 ≡ sixteen (right_of right) → RightParts r right
right_parts r (Some x) o t = (o, t)
right_parts r None o t = (o, t)

module _ (why : Refusal) (stood : ℕ) (right : Option ℕ) (small : refusal_number why < 256) where
  abbrev told_at : Spot → Because
  told_at spot = found why spot stood right

  parts : (how place : ℕ) → how < 8 → (spot : Spot)
      → WhyParts (refusal_number why + 256 * how + 2048 * is_one right + 65536 * sixteen place + 4294967296 * sixteen stood + 281474976710656 * sixteen (right_of right))
      (told_at spot) how place
  parts how place few spot =
      let a = refusal_number why in
      let o = is_one right in
      let p = sixteen place in
      let s = sixteen stood in
      let t = sixteen (right_of right) in
      let one = one_small right in
      let at : p < 65536 = omega arith in
      let there : s < 65536 = omega arith in
      record {
        number = number_of a how o p s t small few one at there;
        placed = how_of a how o p s t small few one at there;
        at = place_of a how o p s t small few one at there;
        stood = stood_of a how o p s t small few one at there;
        right = right_parts (all a how o p s t small few one at there) right
            (one_of a how o p s t small few one at there) (right_of_lem a how o p s t small few one at there);
      }

  packed_at : (spot : Spot) → PackedAs (packed_because (told_at spot)) (told_at spot) spot
  packed_at (Word i) = parts 1 i (omega arith) (Word i)
  packed_at (Byte i) = parts 2 i (omega arith) (Byte i)
  packed_at Whole = parts 3 0 (omega arith) Whole
  packed_at (Asked field.Kind) = parts 4 0 (omega arith) (Asked field.Kind)
  packed_at (Asked field.Devices) = parts 4 1 (omega arith) (Asked field.Devices)
  packed_at (Asked field.Alive) = parts 4 2 (omega arith) (Asked field.Alive)
  packed_at (Asked field.Device) = parts 4 5 (omega arith) (Asked field.Device)

by_reason : (reason : Result (Unit {0}) Because) → reason_number reason < 256 → PackedWhy (packed_reason reason) reason
by_reason (Ok pass) small = refl
by_reason (Err b) small = packed_at b.why b.stood b.right small b.spot

-- ---- twice as many bytes, and no other number

words_of : (line : List ℕ) → length line % 2 ≡ 0 → length (line_on line) ≡ length line / 2
words_of line even = ap length (even_line line even) ∙ length_words line

none_of : (line : List ℕ) → (length line % 2 ≡ 0 → ⊥) → length (line_on line) ≡ 0
none_of line odd = simp (ne_eqb (length line % 2) 0 odd)

whole_words : (line : List ℕ) (words : ℕ) → 1 ≤ words → length (line_on line) ≡ words → length line % 2 ≡ 0
whole_words line words some is = by_test (eqb (length line % 2) 0) refl
  where
    by_test : (t : Bool) → eqb (length line % 2) 0 ≡ t → length line % 2 ≡ 0
    by_test true e = eqb-true (length line % 2) 0 e
    by_test false e = absurd (omega (arith, none_of line (eqb-false (length line % 2) 0 e)))

pub c_side_why : CSideWhy
unfolding reason_on
c_side_why =
    record {
      in_bytes_lem = λ q line told reason is on. is ∙ sym (ap (in_bytes q (length line)) on);
      only_bytes = λ line words some. (
        λ twice. words_of line (omega arith) ∙ omega arith,
        λ is. let even = whole_words line words some is in omega (arith, even, words_of line even),
      );
      packed = λ q line r told is on. subst (λ (x : ℕ). PackedWhy x told) (sym (is ∙ sym (ap packed_reason on)))
          (by_reason told (subst (λ (y : Result (Unit {0}) Because). reason_number y < 256) (sym on) (small_in_bytes q line)));
    }
