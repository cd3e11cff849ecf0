-- `read` meets its contract: a line that rows 1 to 6 turn away is turned away so, and nothing is written.
use mathlib.Core.Path.{◌≡◌, sym, ap, ◌∙◌}
use lib.ListN.{length}
use Rattle.std.specs.Prelude.{Result, Err}
use Rattle.std.proofs.lemmas.Result.{err_from_is_err_and}
use Rattle.lines.specs.Write.{at_front}
use Rattle.readings.specs.Reading.{values_taken}
use Rattle.readings.specs.declared.Refusal.{Refusal}
use Rattle.readings.specs.declared.Taken.{Taken}
use Rattle.judging.specs.Judge.{judge_of}
use Rattle.judging.proofs.Screening.{turned_is_refused}
use Rattle.reader.specs.Read.{values_on}
use Rattle.reader.proofs.read.read.Goals as goal

pub returns-in_err-screen : goal.returns-in_err-screen
returns-in_err-screen c =
    let a = c.args in
    let line = a.line.now in
    let out = a.out.now in
    let said = err_from_is_err_and c.from_residual.result c.from_residual.ensures.1 in
    let why = turned_is_refused a.q line (length out) _ (sym c.screen.ensures ∙ c.in_err-screen.was) in
    let refused : c.from_residual.result ≡ judge_of a.q line (length out) = said.1 ∙ ap Err said.2 ∙ why in
    record { says = refused; leaves = ap (λ (r : Result Taken Refusal). at_front (values_on line (values_taken r)) out) why }
