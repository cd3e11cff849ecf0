-- A call on words that is turned away has written nothing into lent memory: each contract's definitions, gone through case by case, have the
-- memory as it was wherever the answer has a row's number.
use Rattle.std.specs.Prelude.{Result, ⊤}
use mathlib.Core.Path.{◌≡◌, refl, sym, ap, subst, ◌∙◌}
use mathlib.Core.Bool.{Bool}
use mathlib.Core.List.{List}
use Prim.Native.Nat.{ℕ, ◌≤◌}
use native.Mathlib.Omega.{arith}
use lib.ListN.{length}
use Rattle.std.specs.Prelude.{Result, Ok, Err}
use Rattle.lines.specs.Write.{at_front}
use Rattle.lines.proofs.LeftBy.{left_as_it_was}
use Rattle.commands.specs.Command.{command_line, issued_of, CommandPut, issued_number}
use Rattle.questions.specs.declared.question.Question as asked
use Rattle.commands.specs.declared.CommandRefusal.{CommandRefusal}
use Rattle.readings.specs.Reading.{number_of, values_taken}
use Rattle.readings.specs.declared.Refusal.{Refusal}
use Rattle.readings.specs.declared.Taken.{Taken}
use Rattle.readings.specs.declared.Taken.TheVariants.{Counted, Written, Values}
use Rattle.reader.specs.Read.{values_on, ReadDone}
use Rattle.registers.specs.Memory.{power_on_memory, powered_of, PoweredOn, powered_number}
use Rattle.twin.specs.Step.{Chain, stepped_of, Done, stepped_number}
use Rattle.registers.specs.declared.NoChain.{NoChain}
use Rattle.twin.specs.declared.step.StepRefusal.{StepRefusal}
use Rattle.letters.specs.declared.Standing.{Standing}
use Rattle.printing.specs.Text.{certificate_text}
use Rattle.printing.specs.Print.{PrintDone, printed_number}
use Rattle.printing.specs.declared.PrintRefusal.{PrintRefusal}
use Rattle.certificate.specs.Certificate.{certificate_of, CertificateDone, certified_number}
use Rattle.std.specs.Prelude.{Result, Ok, Err}
use Rattle.jobs.specs.declared.FileRefusal.{FileRefusal}
use Rattle.rehearsal.specs.Rehearsal.{rehearsal_of, RehearsalDone, rehearsed_number}
use Rattle.promises.specs.Demand1.{TurnedAway}

-- a reading of a line turned away carries no values
no_values : (r : Result Taken Refusal) → TurnedAway (number_of r) → values_taken r ≡ 0
no_values (Ok (Counted n)) h = refl
no_values (Ok Written) h = refl
no_values (Ok (Values m)) h = absurd (omega arith)
no_values (Err why) h = refl

pub refused_read : (q : asked.Question) (line before after : List ℕ) (r : Result Taken Refusal) → ReadDone q line before after r
    → TurnedAway (number_of r) → after ≡ before
refused_read q line before after r done away =
    done.leaves ∙ ap (λ (m : ℕ). at_front (values_on line m) before) (ap values_taken (sym done.says) ∙ no_values r away)

pub refused_command : (q : asked.Question) (before after : List ℕ) (r : Result ℕ CommandRefusal) → CommandPut q before after r
    → TurnedAway (issued_number r) → after ≡ before
refused_command q before after r done away =
    done.leaves ∙ left_as_it_was (at_front (command_line q) before) before (issued_number (issued_of q (length before))) (omega (arith, ap issued_number done.says))

-- the twin: power-on, and a device or a chain stepped
pub refused_power_on : (n : ℕ) (before after : List ℕ) (r : Result ⊤ NoChain) → PoweredOn n before after r → TurnedAway (powered_number r) → after ≡ before
refused_power_on n before after r done away =
    done.leaves ∙ left_as_it_was (power_on_memory n) before (powered_number (powered_of n before)) (omega (arith, ap powered_number done.says))

pub refused_step : (fits : Bool) (before after : Chain) (out out_after memory_left : List ℕ) (r : Result ⊤ StepRefusal)
    → Done fits before after out out_after memory_left r
    → TurnedAway (stepped_number r) → (memory_left ≡ before.memory) × (out_after ≡ out)
refused_step fits before after out out_after memory_left r done away =
    let row : 1 ≤ stepped_number (stepped_of fits before.line out) = omega (arith, ap stepped_number done.says) in
    (done.remembers ∙ left_as_it_was after.memory before.memory _ row, done.leaves ∙ left_as_it_was (at_front after.line out) out _ row)

-- a text printed
pub refused_print : (version n : ℕ) (numbers : List ℕ) (s : Standing) (before after : List ℕ) (r : Result ℕ PrintRefusal) → PrintDone version n numbers s before after r
    → TurnedAway (printed_number r) → after ≡ before
refused_print version n numbers s before after r done away =
    done.leaves
    ∙ left_as_it_was (at_front (certificate_text version n numbers s) before) before _ (subst (λ (c : Result ℕ PrintRefusal). TurnedAway (printed_number c)) done.says away)

-- the certificate
pub refused_certificate : (file before after : List ℕ) (r : Result ℕ FileRefusal) → CertificateDone file before after r
    → TurnedAway (certified_number r) → after ≡ before
refused_certificate file before after r done away =
    done.leaves ∙ left_as_it_was (at_front (certificate_of file) before) before _ (subst (λ (c : Result ℕ FileRefusal). TurnedAway (certified_number c)) done.says away)

-- the rehearsal
pub refused_rehearsal : (file before after : List ℕ) (r : Result ℕ FileRefusal) → RehearsalDone file before after r
    → TurnedAway (rehearsed_number r) → after ≡ before
refused_rehearsal file before after r done away =
    done.leaves ∙ left_as_it_was (at_front (rehearsal_of file) before) before _ (subst (λ (c : Result ℕ FileRefusal). TurnedAway (rehearsed_number c)) done.says away)
