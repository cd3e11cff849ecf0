-- THE C SIDE, TOLD WHY (document 02, M-101). Claimed of every question and every line of bytes:
-- `explain_bytes`, whose answer the program prints, tells what `explain` tells on the words of the line (an odd number of bytes is as no line at all, and so
-- LENGTH), of which TellMeWhy.antt says what is true; LENGTH alone is told in bytes, and that many bytes and no other number make that many words;
-- `bmc_explain` answers 0 where that is accepted, and otherwise a number of 64 bits whose parts are those of the reason. In sixteen bits 65,535 stands for
-- that and more.
use Rattle.std.specs.Prelude.{◌≡◌, List, ℕ, ◌*◌, ◌/◌, ◌%◌, ◌≤◌, min, length, Result, Ok, Err, Option, Some, None}
use Rattle.packing.specs.Words.{line_on}
use Rattle.questions.specs.declared.question.Question.{Question}
use Rattle.readings.specs.Reading.{refusal_number}
use Rattle.reasons.specs.Reason.{reason_of}
use Rattle.reasons.specs.declared.Field.TheVariants as field
use Rattle.reasons.specs.declared.Spot.{Spot}
use Rattle.reasons.specs.declared.Spot.TheVariants.{Asked, Whole, Word, Byte}
use Rattle.reasons.specs.declared.Because.{Because}
use Rattle.c_reasons.specs.Explain.{in_bytes, reason_on, packed_on}
use Rattle.promises.specs.ByNumber.{packed_number}
use Rattle.promises.specs.Demand1.{Returns}

-- the one thing that would have passed: bit 11 is set and it stands in bits 48 to 63; where there are several these are 0. Bits 12 to 15 are always 0
abbrev pub RightParts : (r : ℕ) → Option ℕ → Type 0
RightParts r (Some x) = (r / 2048 % 32 ≡ 1) × (r / 281474976710656 ≡ min x 65535)
RightParts r None = (r / 2048 % 32 ≡ 0) × (r / 281474976710656 ≡ 0)

-- bits 0 to 7 the number, bits 8 to 10 how it is placed, bits 16 to 31 the place, bits 32 to 47 what stood
pub record WhyParts (r : ℕ) (b : Because) (how place : ℕ) : Type 0 where
  pub number : packed_number r ≡ refusal_number b.why
  pub placed : r / 256 % 8 ≡ how
  pub at : r / 65536 % 65536 ≡ min place 65535
  pub stood : r / 4294967296 % 65536 ≡ min b.stood 65535
  pub right : RightParts r b.right

-- 1 a word, 2 a byte, 3 the line, 4 a field of the question, by its argument counted from 0
abbrev pub PackedAs : (r : ℕ) → Because → Spot → Type 0
PackedAs r b (Word i) = WhyParts r b 1 i
PackedAs r b (Byte i) = WhyParts r b 2 i
PackedAs r b Whole = WhyParts r b 3 0
PackedAs r b (Asked field.Kind) = WhyParts r b 4 0
PackedAs r b (Asked field.Devices) = WhyParts r b 4 1
PackedAs r b (Asked field.Alive) = WhyParts r b 4 2
PackedAs r b (Asked field.Device) = WhyParts r b 4 5

abbrev pub PackedWhy : (r : ℕ) → Result (Unit {0}) Because → Type 0
PackedWhy r (Ok pass) = r ≡ 0
PackedWhy r (Err b) = PackedAs r b b.spot

pub record CSideWhy : Type 0 where
  pub in_bytes_lem : (q : Question) (line : List ℕ) (told reason : Result (Unit {0}) Because) → Returns (reason_on q line) told → Returns (reason_of q (line_on line)) reason
      → told ≡ in_bytes q (length line) reason
  pub only_bytes : (line : List ℕ) (words : ℕ) → 1 ≤ words
      → (length line ≡ 2 * words → length (line_on line) ≡ words) × (length (line_on line) ≡ words → length line ≡ 2 * words)
  pub packed : (q : Question) (line : List ℕ) (r : ℕ) (told : Result (Unit {0}) Because) → Returns (packed_on q line) r → Returns (reason_on q line) told → PackedWhy r told
