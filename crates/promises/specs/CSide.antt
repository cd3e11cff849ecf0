-- THE C SIDE (document 01, "The C side"): the parts of the one number that a program gets back. Its question is that of the seven numbers that it
-- passes, as each export's own line says (`asking`).
use Rattle.std.specs.Prelude.{◌≡◌, ℕ, ◌/◌, ◌%◌, Result, Ok, Err}
use Rattle.readings.specs.declared.Refusal.TheVariants as row
use Rattle.readings.specs.declared.Refusal.{Refusal}
use Rattle.readings.specs.declared.Taken.{Taken}
use Rattle.readings.specs.declared.Taken.TheVariants.{Counted, Written, Values}
use Rattle.promises.specs.ByNumber.{packed_number}

-- bits 16 to 31 of an answer
abbrev pub upper_half : ℕ → ℕ
upper_half r = r / 65536

-- its parts: bits 0 to 7, bits 8 to 15, and bits 16 to 31
pub record Parts (r a b c : ℕ) : Type 0 where
  pub number : packed_number r ≡ a
  pub middle : r / 256 % 256 ≡ b
  pub upper : upper_half r ≡ c

-- what stands there for a reading: its number; HELLOALL's count, or the byte of CHECK and COUNT; how many values, or the place of CHARACTER and
-- MANCHESTER
abbrev pub PackedAs : (r : ℕ) → Result Taken Refusal → Type 0
PackedAs r (Ok (Counted n)) = Parts r 0 n 0
PackedAs r (Ok Written) = Parts r 0 0 0
PackedAs r (Ok (Values m)) = Parts r 0 0 m
PackedAs r (Err row.Question) = Parts r 1 0 0
PackedAs r (Err row.Room) = Parts r 2 0 0
PackedAs r (Err row.Length) = Parts r 3 0 0
PackedAs r (Err (row.Character i)) = Parts r 4 0 i
PackedAs r (Err row.Frame) = Parts r 5 0 0
PackedAs r (Err (row.Manchester i)) = Parts r 6 0 i
PackedAs r (Err row.Echo) = Parts r 7 0 0
PackedAs r (Err row.Pec) = Parts r 8 0 0
PackedAs r (Err row.Alive) = Parts r 9 0 0
PackedAs r (Err (row.Check b)) = Parts r 10 b 0
PackedAs r (Err (row.Count b)) = Parts r 11 b 0
