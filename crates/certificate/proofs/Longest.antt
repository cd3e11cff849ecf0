-- THE LONGEST CERTIFICATE. Memory of 82,143 bytes holds the certificate of every job file: 9 bytes for the first line, 10 for each of 8,191
-- entries, 7 for each of 32 devices.
use mathlib.Core.Path.{◌≡◌}
use mathlib.Core.Bool.{true}
use mathlib.Core.List.{List, [], ◌∷◌}
use Prim.Native.Nat.{ℕ, zero, suc, ◌≤◌, ◌<◌}
use native.Mathlib.Omega.{arith}
use Rattle.std.specs.Prelude.{Result, Ok}
use lib.ListN.{length, get_or}
use Rattle.std.specs.Prelude.{Result, Ok, Err}
use Rattle.readings.specs.Reading.{refusal_number, number_of}
use Rattle.readings.specs.declared.Refusal.{Refusal}
use Rattle.readings.specs.declared.Refusal.TheVariants.{Question, Room, Length, Character, Frame, Manchester, Echo, Pec, Alive, Check, Count}
use Rattle.readings.specs.declared.Taken.{Taken}
use Rattle.readings.specs.declared.Taken.TheVariants.{Counted, Written, Values}
use Rattle.jobs.specs.Check.{header_in, good_file}
use Rattle.jobs.proofs.Entries.{parts, header_version, header_most}
use Rattle.letters.specs.Letters.{Heard}
use Rattle.printing.proofs.Lengths.{longest}
use Rattle.jobs.specs.declared.FileRefusal.{FileRefusal}
use Rattle.certificate.specs.Certificate.{heard_in, numbers_of, standing_of, certificate_of, certified_of, most_text}
use Rattle.certificate.proofs.Certifying.{countable}
use Rattle.certificate.proofs.Answered.{Answered, no_job, no_room, all, answered}

-- no number of the table is above 99
number_small : (r : Result Taken Refusal) → number_of r < 100
number_small (Ok (Counted n)) = omega arith
number_small (Ok Written) = omega arith
number_small (Ok (Values m)) = omega arith
number_small (Err why) = row why
  where
    row : (why : Refusal) → refusal_number why < 100
    row Question = omega arith
    row Room = omega arith
    row Length = omega arith
    row (Character i) = omega arith
    row Frame = omega arith
    row (Manchester i) = omega arith
    row Echo = omega arith
    row Pec = omega arith
    row Alive = omega arith
    row (Check b) = omega arith
    row (Count b) = omega arith

numbers_small : (es : List Heard) (k : ℕ) → get_or (numbers_of es) k 0 < 100
numbers_small [] k = omega arith
numbers_small (e ∷ es) zero = number_small e.reading
numbers_small (e ∷ es) (suc k) = numbers_small es k

pub fits_every_certificate : (file : List ℕ) → good_file file ≡ true → length (certificate_of file) ≤ most_text
unfolding certificate_of
fits_every_certificate file ok =
    longest (header_in file).version (header_in file).n (numbers_of (heard_in file)) (standing_of file)
    (omega (arith, header_version (header_in file) (parts file ok).header)) (omega (arith, header_most (header_in file) (parts file ok).header))
    (countable file ok) (numbers_small (heard_in file))

-- what is written: a good file's certificate, within the lent memory
pub record WrittenOut (file text : List ℕ) (n : ℕ) : Type 0 where
  pub within : n ≤ length text
  pub most : n ≤ most_text

pub written : (file text : List ℕ) (n : ℕ) → certified_of file text ≡ Ok n → WrittenOut file text n
written file text n says = by_answer (certified_of file text) (answered file text) says
  where
    by_answer : (r : Result ℕ FileRefusal) → Answered file text r → r ≡ Ok n → WrittenOut file text n
    by_answer _ (all ok fits) e =
        let is : length (certificate_of file) ≡ n = cc in
        record { within = omega (arith, is, fits); most = omega (arith, is, fits_every_certificate file ok) }
    by_answer _ (no_room ok over) e = let z : ◌≡◌ {A = ℕ} 0 1 = cc in absurd (omega arith)
    by_answer _ (no_job bad) e = let z : ◌≡◌ {A = ℕ} 0 1 = cc in absurd (omega arith)
