-- A packed reading is taken apart: its byte or count is below 256, its place or number of values below 65,536, so no part runs over into the next
-- and none is cut short.
use mathlib.Core.Path.{◌≡◌, refl, sym, ap, ◌∙◌, subst}
use mathlib.Core.List.{List}
use Prim.Native.Nat.{ℕ, ◌+◌, ◌*◌, ◌/◌, ◌%◌, ◌<◌}
use native.Mathlib.Omega.{arith}
use lib.ListN.{length}
use Rattle.std.specs.Prelude.{Result, Ok, Err}
use Rattle.packing.specs.Words.{line_on}
use Rattle.questions.specs.declared.question.Question.{Question}
use Rattle.readings.specs.Reading.{number_of, place_of, values_taken}
use Rattle.readings.specs.Packed.{packed_reading}
use Rattle.readings.specs.declared.Refusal.TheVariants as row
use Rattle.readings.specs.declared.Refusal.{Refusal}
use Rattle.readings.specs.declared.Taken.{Taken}
use Rattle.readings.specs.declared.Taken.TheVariants.{Counted, Written, Values}
use Rattle.judging.specs.Judge.{judge_of}
use Rattle.judging.proofs.Accepted.{values_fit}
use Rattle.judging.proofs.Bounds.{place_most}
use Rattle.judging.proofs.SmallBytes.{carried_byte, small_byte}
use Rattle.c_reader.specs.ReadBytes.{reading_on, ReadBytesDone}
use Rattle.promises.specs.CSide.{Parts, PackedAs}
use Rattle.promises.specs.CSidePacked.{CSidePacked}
use Rattle.promises.proofs.Rows.{carried}

-- three parts side by side
parts : (a b c : ℕ) → a < 256 → b < 256 → Parts (a + 256 * b + 65536 * c) a b c
parts a b c ha hb =
    let above : (a + 256 * b + 65536 * c) / 256 ≡ b + 256 * c = omega arith in
    let low : (b + 256 * c) % 256 ≡ b = omega arith in
    record { number = omega arith; middle = ap (λ (x : ℕ). x % 256) above ∙ low; upper = omega arith }

-- the same parts, said otherwise
as_said : {r number middle upper middle' upper' : ℕ} → Parts r number middle upper → middle ≡ middle' → upper ≡ upper' → Parts r number middle' upper'
as_said is m u = record { number = is.number; middle = is.middle ∙ m; upper = is.upper ∙ u }

-- what must hold of a reading so that nothing of it is lost
record Whole (reading : Result Taken Refusal) : Type 0 where
  byte : carried_byte reading < 256
  upper : place_of reading + values_taken reading < 65536

packed : (reading : Result Taken Refusal) → Whole reading → number_of reading < 256
    → Parts (packed_reading reading) (number_of reading) (carried_byte reading) (place_of reading + values_taken reading)
packed reading whole row =
    let upper = place_of reading + values_taken reading in
    let uncut : upper % 65536 ≡ upper = omega (arith, whole.upper) in
    as_said (parts (number_of reading) (carried_byte reading) (upper % 65536) row whole.byte) refl uncut

apart : (reading : Result Taken Refusal) → Whole reading → PackedAs (packed_reading reading) reading
apart (Ok (Counted n)) whole = as_said (packed (Ok (Counted n)) whole (omega arith)) (omega arith) (omega arith)
apart (Ok Written) whole = as_said (packed (Ok Written) whole (omega arith)) (omega arith) (omega arith)
apart (Ok (Values m)) whole = as_said (packed (Ok (Values m)) whole (omega arith)) (omega arith) (omega arith)
apart (Err row.Question) whole = as_said (packed (Err row.Question) whole (omega arith)) (omega arith) (omega arith)
apart (Err row.Room) whole = as_said (packed (Err row.Room) whole (omega arith)) (omega arith) (omega arith)
apart (Err row.Length) whole = as_said (packed (Err row.Length) whole (omega arith)) (omega arith) (omega arith)
apart (Err (row.Character i)) whole = as_said (packed (Err (row.Character i)) whole (omega arith)) (omega arith) (omega arith)
apart (Err row.Frame) whole = as_said (packed (Err row.Frame) whole (omega arith)) (omega arith) (omega arith)
apart (Err (row.Manchester i)) whole = as_said (packed (Err (row.Manchester i)) whole (omega arith)) (omega arith) (omega arith)
apart (Err row.Echo) whole = as_said (packed (Err row.Echo) whole (omega arith)) (omega arith) (omega arith)
apart (Err row.Pec) whole = as_said (packed (Err row.Pec) whole (omega arith)) (omega arith) (omega arith)
apart (Err row.Alive) whole = as_said (packed (Err row.Alive) whole (omega arith)) (omega arith) (omega arith)
apart (Err (row.Check b)) whole = as_said (packed (Err (row.Check b)) whole (omega arith)) (omega arith) (omega arith)
apart (Err (row.Count b)) whole = as_said (packed (Err (row.Count b)) whole (omega arith)) (omega arith) (omega arith)

whole_reading : (q : Question) (line before : List ℕ) → Whole (reading_on q line before)
unfolding reading_on
whole_reading q line before =
    let room = length before / 2 in
    record {
      byte = small_byte q (line_on line) room;
      upper = omega (arith, place_most q (line_on line) room, (values_fit q (line_on line) room).0);
    }

pub packed_as : (q : Question) (line before after : List ℕ) (r : ℕ) → ReadBytesDone q line before after r → PackedAs r (reading_on q line before)
packed_as q line before after r done =
    let reading = reading_on q line before in
    subst (λ (x : ℕ). PackedAs x reading) (sym done.says) (apart reading (whole_reading q line before))

pub c_side_packed : CSidePacked
unfolding reading_on
c_side_packed q line before after r done values left reading room read =
    let same : reading_on q line before ≡ reading = sym (read.says ∙ ap (judge_of q (line_on line)) room) in
    (subst (PackedAs r) same (packed_as q line before after r done), λ why is. carried q (line_on line) (length before / 2) why (same ∙ is))
