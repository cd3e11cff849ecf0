-- The C side's number and line: the lowest eight bits of a packed reading are its number, and the bytes of a line's words are that line again.
use mathlib.Core.Path.{◌≡◌, refl, ap, ap₂, ◌∙◌}
use mathlib.Core.Bool.{Bool, cond}
use mathlib.Core.List.{List, [], ◌∷◌}
use Prim.Native.Nat.{ℕ, ◌%◌, ◌≤◌}
use native.Mathlib.Omega.{arith}
use lib.ListN.{length}
use borrow.Author.Tests.{eq-eqb}
use Rattle.std.specs.Prelude.{Result, Ok, Err}
use Rattle.packing.specs.Words.{words_of, as_bytes, line_on}
use Rattle.packing.proofs.Back.{length_bytes}
use Rattle.readings.specs.Reading.{refusal_number, number_of}
use Rattle.readings.specs.Packed.{packed_reading}
use Rattle.readings.specs.declared.Refusal.{Refusal}
use Rattle.readings.specs.declared.Refusal.TheVariants.{Question, Room, Length, Character, Frame, Manchester, Echo, Pec, Alive, Check, Count}
use Rattle.readings.specs.declared.Taken.{Taken}
use Rattle.readings.specs.declared.Taken.TheVariants.{Counted, Written, Values}
use Rattle.promises.specs.ByNumber.{packed_number}

-- rows 1 to 11
pub row_number : (why : Refusal) → (1 ≤ refusal_number why) × (refusal_number why ≤ 11)
row_number Question = (omega arith, omega arith)
row_number Room = (omega arith, omega arith)
row_number Length = (omega arith, omega arith)
row_number (Character i) = (omega arith, omega arith)
row_number Frame = (omega arith, omega arith)
row_number (Manchester i) = (omega arith, omega arith)
row_number Echo = (omega arith, omega arith)
row_number Pec = (omega arith, omega arith)
row_number Alive = (omega arith, omega arith)
row_number (Check b) = (omega arith, omega arith)
row_number (Count b) = (omega arith, omega arith)

pub number_packed : (reading : Result Taken Refusal) → packed_number (packed_reading reading) ≡ number_of reading
number_packed (Ok (Counted n)) = omega arith
number_packed (Ok Written) = omega arith
number_packed (Ok (Values m)) = omega arith
number_packed (Err why) = omega (arith, (row_number why).1)

words_again : (words : List ℕ) → words_of (as_bytes words) ≡ words
unfolding words_of as_bytes
words_again [] = refl
words_again (w ∷ words) = ap₂ (λ (x : ℕ) (l : List ℕ). x ∷ l) (omega arith) (words_again words)

pub line_on_lem : (words : List ℕ) → line_on (as_bytes words) ≡ words
line_on_lem words =
    ap (λ (t : Bool). cond t (words_of (as_bytes words)) []) (eq-eqb (length (as_bytes words) % 2) 0 (omega (arith, length_bytes words)))
    ∙ words_again words
