-- A call of the C side that is turned away has written nothing into lent memory: what is packed beside the number is a multiple of 256, so that
-- the number in the lowest eight bits is the row's own, and the rest goes by cases as on words.
use mathlib.Core.Path.{◌≡◌, refl, ap, ◌∙◌}
use mathlib.Core.Bool.{Bool, true, false, cond}
use mathlib.Core.List.{List}
use Prim.Native.Nat.{ℕ, ◌/◌, ◌≤◌}
use native.Mathlib.Omega.{arith}
use lib.Dec.{eqb}
use lib.IntN.{ℤ}
use lib.Ieee.{Float}
use lib.ListN.{length}
use Rattle.std.specs.Prelude.{Result, Ok, Err}
use Rattle.lines.specs.Write.{at_front}
use Rattle.lines.proofs.LeftBy.{left_as_it_was}
use Rattle.packing.specs.Words.{as_bytes, line_on}
use Rattle.questions.specs.declared.question.Question as asked
use Rattle.readings.specs.Reading.{values_taken}
use Rattle.readings.specs.Packed.{packed_reading}
use Rattle.readings.specs.declared.Refusal.{Refusal}
use Rattle.readings.specs.declared.Taken.{Taken}
use Rattle.readings.specs.declared.Taken.TheVariants.{Counted, Written, Values}
use Rattle.reader.specs.Read.{values_on}
use Rattle.commands.specs.Command.{command_line, issued_of, issued_number}
use Rattle.registers.specs.Memory.{power_on_memory}
use Rattle.twin.specs.Step.{Chain}
use Rattle.certificate.specs.Certificate.{certified_of, certified_number}
use Rattle.std.specs.Prelude.{Result, Ok, Err}
use Rattle.jobs.specs.declared.FileRefusal.{FileRefusal}
use Rattle.jobs.specs.declared.FileRefusal.TheVariants as refusal
use Rattle.cells.specs.Cell.{cell_of}
use Rattle.cells.specs.declared.Cell.{Cell}
use Rattle.cells.specs.declared.Cell.TheVariants as cell
use Rattle.cells.specs.declared.Range.{Range}
use Rattle.cells.specs.declared.Range.TheVariants.{Unipolar, Bipolar}
use Rattle.c_reader.specs.ReadBytes.{reading_on, ReadBytesDone}
use Rattle.c_commands.specs.CommandBytes.{CommandBytesDone}
use Rattle.c_cells.specs.CellBytes.{packed_cell, microvolts_or, volts_or, answer_of, microvolts_left, volts_left, CellDone}
use Rattle.c_cells.specs.CellsBytes.{cells_number, cells_read, by_cell, packed_or, CellsDone}
use Rattle.c_twin.specs.TwinBytes.{power_number, bytes_number, PowerBytesDone, BytesDone}
use Rattle.bmc.specs.Exports.{packed_certified, CertificateBytesDone}
use Rattle.promises.specs.ByNumber.{packed_number}
use Rattle.promises.specs.Demand1.{TurnedAway}
use Rattle.promises.proofs.RefusedWritesNothing.{refused_certificate}

pub refused_read_bytes : (q : asked.Question) (line before after : List ℕ) (r : ℕ) → ReadBytesDone q line before after r
    → TurnedAway (packed_number r) → after ≡ before
unfolding as_bytes
refused_read_bytes q line before after r done away =
    done.leaves ∙ ap (λ (m : ℕ). at_front (as_bytes (values_on (line_on line) m)) before) (no_values (reading_on q line before) done.says)
  where
    no_values : (reading : Result Taken Refusal) → r ≡ packed_reading reading → values_taken reading ≡ 0
    no_values (Ok (Counted n)) e = refl
    no_values (Ok Written) e = refl
    no_values (Ok (Values m)) e = absurd (omega arith)
    no_values (Err why) e = refl

pub refused_command_bytes : (q : asked.Question) (before after : List ℕ) (r : ℕ) → CommandBytesDone q before after r
    → TurnedAway (packed_number r) → after ≡ before
refused_command_bytes q before after r done away =
    done.leaves ∙ left_as_it_was (at_front (as_bytes (command_line q)) before) before (issued_number (issued_of q (length before / 2))) (omega (arith, done.says))

pub refused_cell : (c enabled register bipolar : ℕ) (microvolts microvolts_after : ℤ) (volts volts_after : Float) (r : ℕ)
    → CellDone c enabled register bipolar microvolts microvolts_after volts volts_after r → TurnedAway (packed_number r)
    → (microvolts_after ≡ microvolts) × (volts_after ≡ volts)
unfolding answer_of microvolts_left volts_left
refused_cell c enabled register bipolar microvolts microvolts_after volts volts_after r done away =
    let by = by_range (eqb bipolar 0) (eqb bipolar 1) done.says in (done.microvolts ∙ by.0, done.volts ∙ by.1)
  where
    of : Range → Cell
    of range = cell_of range enabled c register

    by_cell_lem : (x : Cell) → r ≡ packed_cell x → (microvolts_or x microvolts ≡ microvolts) × (volts_or x volts ≡ volts)
    by_cell_lem (cell.Measured v) e = absurd (omega arith)
    by_cell_lem cell.NotMeasured e = (refl, refl)
    by_cell_lem (cell.Refused why) e = (refl, refl)

    by_range : (unipolar bipolar : Bool) → r ≡ cond unipolar (packed_cell (of Unipolar)) (cond bipolar (packed_cell (of Bipolar)) 1)
        → (cond unipolar (microvolts_or (of Unipolar) microvolts) (cond bipolar (microvolts_or (of Bipolar) microvolts) microvolts) ≡ microvolts)
        × (cond unipolar (volts_or (of Unipolar) volts) (cond bipolar (volts_or (of Bipolar) volts) volts) ≡ volts)
    by_range true other e = by_cell_lem (of Unipolar) e
    by_range false true e = by_cell_lem (of Bipolar) e
    by_range false false e = (refl, refl)

pub refused_cells : (enabled bipolar : ℕ) (registers : List ℕ) (microvolts microvolts_after : List ℤ) (volts volts_after : List Float)
    (answers answers_after : List ℕ) (r : ℕ) → CellsDone enabled bipolar registers microvolts microvolts_after volts volts_after answers answers_after r
    → TurnedAway (packed_number r) → (microvolts_after ≡ microvolts) × (volts_after ≡ volts) × (answers_after ≡ answers)
refused_cells enabled bipolar registers microvolts microvolts_after volts volts_after answers answers_after r done away =
    let number = cells_number bipolar registers microvolts volts answers in
    let cells = cells_read enabled bipolar registers in
    let row : 1 ≤ number = omega (arith, done.says) in (
      done.microvolts ∙ left_as_it_was (by_cell microvolts_or cells microvolts) microvolts number row,
      done.volts ∙ left_as_it_was (by_cell volts_or cells volts) volts number row,
      done.answers ∙ left_as_it_was (by_cell packed_or cells answers) answers number row,
    )

pub refused_power_bytes : (n : ℕ) (before after : List ℕ) (r : ℕ) → PowerBytesDone n before after r → TurnedAway (packed_number r) → after ≡ before
refused_power_bytes n before after r done away =
    done.leaves ∙ left_as_it_was (as_bytes (power_on_memory n)) before (power_number n (length before)) (omega (arith, done.says))

-- one device, or the whole chain
pub refused_steps : (fits : Bool) (chain : Chain) (memory memory_left line out out_after : List ℕ) (r : ℕ)
    → BytesDone fits chain memory memory_left line out out_after r → TurnedAway (packed_number r) → (memory_left ≡ memory) × (out_after ≡ out)
refused_steps fits chain memory memory_left line out out_after r done away =
    let row : 1 ≤ bytes_number fits line out = omega (arith, done.says) in (
      done.remembers ∙ left_as_it_was (as_bytes chain.memory) memory _ row,
      done.leaves ∙ left_as_it_was (at_front (as_bytes chain.line) out) out _ row,
    )

pub refused_certificate_bytes : (file before after : List ℕ) (r : ℕ) → CertificateBytesDone file before after r
    → TurnedAway (packed_number r) → after ≡ before
refused_certificate_bytes file before after r done away =
    refused_certificate file before after (certified_of file before) (record { says = refl; leaves = done.leaves })
    (own_number (certified_of file before) done.says)
  where
    own_number : (c : Result ℕ FileRefusal) → r ≡ packed_certified c → TurnedAway (certified_number c)
    own_number (Ok n) e = omega arith
    own_number (Err refusal.File) e = omega arith
    own_number (Err refusal.Room) e = omega arith
