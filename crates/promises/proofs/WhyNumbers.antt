-- The number of a reason, on words, over bytes and packed, is the one that is due by the reader's rows.
use mathlib.Core.Path.{◌≡◌, refl, sym, ap, subst}
use mathlib.Core.List.{List}
use Prim.Native.Nat.{ℕ, ◌<◌}
use native.Mathlib.Omega.{arith}
use lib.ListN.{length}
use Rattle.std.specs.Prelude.{Result, Ok, Err}
use Rattle.packing.specs.Words.{line_on}
use Rattle.questions.specs.declared.question.Question.{Question}
use Rattle.readings.specs.Reading.{refusal_number, number_of}
use Rattle.readings.specs.declared.Refusal.{Refusal}
use Rattle.readings.specs.declared.Taken.{Taken}
use Rattle.readings.specs.declared.Taken.TheVariants.{Counted, Written, Values}
use Rattle.judging.specs.Judge.{judge_of}
use Rattle.reasons.specs.Reason.{reason_for, reason_of, reason_number}
use Rattle.reasons.specs.declared.Spot.{Spot}
use Rattle.reasons.specs.declared.Spot.TheVariants.{Asked, Whole, Word, Byte}
use Rattle.reasons.specs.declared.Because.{Because}
use Rattle.reasons.proofs.Told.{same_why}
use Rattle.c_reasons.specs.Explain.{counted_in, in_bytes, reason_on, packed_reason, packed_on}
use Rattle.promises.specs.ByNumber.{NumberDue, packed_number}
use Rattle.promises.specs.Rows.{read_rows}
use Rattle.promises.proofs.ByNumber.{Small, below_256}
use Rattle.promises.proofs.Rows.{by_number}

module _ (q : Question) (line : List ℕ) where
  of_reading : (r : Result Taken Refusal) → number_of r ≡ reason_number (reason_for q line r)
  of_reading (Ok (Counted n)) = refl
  of_reading (Ok Written) = refl
  of_reading (Ok (Values m)) = refl
  of_reading (Err why) = ap refusal_number (sym (same_why q line why))

  pub explain_due : NumberDue (read_rows q line 32) (reason_number (reason_of q line))
  unfolding reason_of
  explain_due = subst (NumberDue (read_rows q line 32)) (of_reading (judge_of q line 32)) (by_number q line 32)

-- counting in bytes changes no number
same_number : (q : Question) (bytes : ℕ) (b : Because) (spot : Spot) → b.why ≡ (counted_in q bytes b spot).why
same_number q bytes b (Asked f) = refl
same_number q bytes b Whole = refl
same_number q bytes b (Word i) = refl
same_number q bytes b (Byte i) = refl

in_bytes_lem : (q : Question) (bytes : ℕ) (reason : Result (Unit {0}) Because) → reason_number reason ≡ reason_number (in_bytes q bytes reason)
in_bytes_lem q bytes (Ok pass) = refl
in_bytes_lem q bytes (Err b) = ap refusal_number (same_number q bytes b b.spot)

pub explain_bytes_due : (q : Question) (line : List ℕ) → NumberDue (read_rows q (line_on line) 32) (reason_number (reason_on q line))
unfolding reason_on
explain_bytes_due q line =
    subst (NumberDue (read_rows q (line_on line) 32)) (in_bytes_lem q (length line) (reason_of q (line_on line))) (explain_due q (line_on line))

-- packed, it stands in the lowest eight bits
packed : (reason : Result (Unit {0}) Because) → reason_number reason < 256 → reason_number reason ≡ packed_number (packed_reason reason)
packed (Ok pass) small = refl
packed (Err b) small = omega (arith, small)

small_rows : (q : Question) (line : List ℕ) → Small (read_rows q line 32)
small_rows q line =
    (omega arith, (omega arith, (omega arith, (omega arith, (omega arith, (omega arith, (omega arith, (omega arith, (omega arith, (omega arith, (omega arith, tt)))))))))))

small_number : (q : Question) (line : List ℕ) → reason_number (reason_of q line) < 256
small_number q line = below_256 (read_rows q line 32) (reason_number (reason_of q line)) (small_rows q line) (explain_due q line)

pub small_in_bytes : (q : Question) (line : List ℕ) → reason_number (reason_on q line) < 256
unfolding reason_on
small_in_bytes q line = omega (arith, in_bytes_lem q (length line) (reason_of q (line_on line)), small_number q (line_on line))

pub explain_packed_due : (q : Question) (line : List ℕ) → NumberDue (read_rows q (line_on line) 32) (packed_number (packed_on q line))
explain_packed_due q line =
    subst (NumberDue (read_rows q (line_on line) 32)) (packed (reason_on q line) (small_in_bytes q line)) (explain_bytes_due q line)
