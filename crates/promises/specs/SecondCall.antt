-- THE SECOND CALL (document 01, "Commands and answers"). For a read that is accepted, and a device that the question covers, it hands back four
-- characters of the line, and decoded they are the value that `read` left for that device. A device that the question doesn't cover, a refusal, or
-- another kind gives nothing, and there is no refusal. Claimed of every question, line and device, and of every answer that meets the contracts of
-- `read` and of `register_part`; and of C's `bmc_part`, which names the place of the first of the four words.
use Rattle.std.specs.Prelude.{◌≡◌, true, false, List, [], ◌∷◌, ℕ, suc, ◌+◌, ◌*◌, ◌≤◌, length, get_or, take, drop, Result}
use Rattle.lines.specs.Line.{bytes_in}
use Rattle.packing.specs.Words.{words_of, line_on}
use Rattle.questions.specs.Question.{covers}
use Rattle.questions.specs.Shape.{shape_of}
use Rattle.questions.specs.declared.question.Question.{Question}
use Rattle.readings.specs.Reading.{values_taken}
use Rattle.readings.specs.declared.Refusal.{Refusal}
use Rattle.readings.specs.declared.Taken.{Taken}
use Rattle.reader.specs.Read.{ReadDone}
use Rattle.parts.specs.Part.{order_of, part_of}
use Rattle.c_parts.specs.PartBytes.{part_in}
use Rattle.promises.specs.ByNumber.{packed_number}
use Rattle.promises.specs.Demand1.{Returns}
use Rattle.promises.specs.CSide.{upper_half}

-- where the characters of a device's value start, of so many values on the line: behind the preamble and the two first bytes, which are five
-- characters, and the values of the devices above it, four characters each
abbrev pub StartsAt : Question → (a values start : ℕ) → Type 0
StartsAt q a values start = start + 4 * suc (order_of q a) ≡ 5 + 4 * values

-- the four characters at a place of the line, and the value that they carry: they are two bytes, and these one word
pub record CarriedAt (line part : List ℕ) (start value : ℕ) : Type 0 where
  pub there : part ≡ take 4 (drop start line)
  pub four : length part ≡ 4
  pub carries : words_of (bytes_in part) ≡ value ∷ []

pub record SecondCall : Type 0 where
  -- values were handed out, and the device is covered: its own, as `read` left it in the output
  pub handed_back : (q : Question) (line before after : List ℕ) (r : Result Taken Refusal) → ReadDone q line before after r → 1 ≤ values_taken r
      → (a : ℕ) → covers q a ≡ true → (part : List ℕ) → Returns (part_of q line a) part
      → (start : ℕ) × StartsAt q a (values_taken r) start × CarriedAt line part start (get_or after (order_of q a) 0)
  -- a device that is not covered
  pub not_covered : (q : Question) (line : List ℕ) (a : ℕ) → covers q a ≡ false → (part : List ℕ) → Returns (part_of q line a) part → part ≡ []
  -- a refusal, though there was room, or a kind without values
  pub nothing_taken : (q : Question) (line before after : List ℕ) (r : Result Taken Refusal) → ReadDone q line before after r
      → (shape_of q).values ≤ length before → values_taken r ≡ 0 → (a : ℕ) (part : List ℕ) → Returns (part_of q line a) part → part ≡ []
  -- C's call, beside `read` on the words of the line: four words from the place in bits 16 to 31;
  pub in_bytes : (q : Question) (line before after : List ℕ) (reading : Result Taken Refusal) → ReadDone q (line_on line) before after reading
      → 1 ≤ values_taken reading → (a : ℕ) → covers q a ≡ true → (r : ℕ) → Returns (part_in q a line) r
      → (packed_number r ≡ 4) × StartsAt q a (values_taken reading) (upper_half r)
  -- and 0 where there is no part
  pub none_in_bytes : (q : Question) (line part : List ℕ) (a r : ℕ) → Returns (part_of q (line_on line) a) part
      → Returns (part_in q a line) r → part ≡ [] → r ≡ 0
