-- WHERE DEMAND 3 ENDS (document 01, "Distance, and where it ends"): none of its figures can be raised. From 15 devices on, four line bits turned
-- over lead to another acceptable answer: bit 0 of device 14's low byte and bit 7 of the PEC, each with its complement. At 15 devices that byte
-- is the first value byte. With any number of devices six do. Claimed of every good READALL question, whatever the values.
use Rattle.std.specs.Prelude.{◌≡◌, List, ℕ, ◌≤◌, length, get_or, replicate, set, Result, Ok}
use Rattle.remainder.specs.Turned.{turned, weight}
use Rattle.lines.specs.Write.{at_front}
use Rattle.questions.specs.Question.{asking, read_all}
use Rattle.questions.specs.declared.question.Question.{Question}
use Rattle.reader.specs.Read.{ReadDone}
use Rattle.readings.specs.declared.Refusal.{Refusal}
use Rattle.readings.specs.declared.Taken.{Taken}
use Rattle.readings.specs.declared.Taken.TheVariants.{Values}
use Rattle.promises.specs.Demand3.{ReadsAll, answer_line}

-- The line bits in which two READALL answers differ: one has 0000h of every device, the other has the named bits set in one device's register. They
-- are those bits, and the bits of the PEC that make it right again, each with its complement.
unfoldable pub damage : (n alive device bits : ℕ) → List ℕ
damage n alive device bits =
    let answer : List ℕ → List ℕ = answer_line (asking read_all n alive 0 0 0 0) in
    turned (answer (replicate n 0)) (answer (set (replicate n 0) device bits))

-- So many line bits, no character lost or added, and whoever meets `read`'s contract accepts the line, with other values than those sent.
pub record Undetected (q : Question) (values masks : List ℕ) (bits : ℕ) : Type 0 where
  pub every : length masks ≡ length (answer_line q values)
  pub turns : weight masks ≡ bits
  pub others : List ℕ
  pub differ : values ≡ others → ⊥
  pub accepted : (before after : List ℕ) (r : Result Taken Refusal) → q.n ≤ length before
      → ReadDone q (turned (answer_line q values) masks) before after r
      → (r ≡ Ok (Values q.n)) × (after ≡ at_front others before)

pub record WhereItEnds : Type 0 where
  -- three is the most to promise from 15 devices on: bit 0 of device 14's register, and one bit of the PEC
  pub four_bits_pass : (q : Question) (values : List ℕ) → ReadsAll q values
      → 15 ≤ q.n
      → Undetected q values (damage q.n q.alive 14 1) 4
  -- five is the most to promise of any number of devices: bit 2 of device 0's register, and two bits of the PEC
  pub six_bits_pass : (q : Question) (values : List ℕ) → ReadsAll q values
      → Undetected q values (damage q.n q.alive 0 4) 6
  -- at 15 devices the four are document 01's: words 5 and 68 of the line, the low nibble of byte 2 (the first value byte) and the high nibble of
  -- byte 33 (the PEC); in them bit 0 and bit 7, each with its complement; alive on or off
  pub document_01 : (alive : ℕ) → (get_or (damage 15 alive 14 1) 5 0 ≡ 0x006) × (get_or (damage 15 alive 14 1) 68 0 ≡ 0x180)
