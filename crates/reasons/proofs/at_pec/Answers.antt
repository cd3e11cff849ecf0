-- `at_pec` meets its contract: the PEC of the bytes before it, as they stand.
use Rattle.std.specs.Prelude.{Some}
use Rattle.std.proofs.Common.{ℕ, ap, ◌∙◌}
use Rattle.ground.specs.Sweep.{tabulated}
use Rattle.pec.specs.Pec.{pec_of}
use Rattle.lines.specs.Line.{byte_at}
use Rattle.questions.specs.declared.question.Shape.{Shape}
use Rattle.readings.specs.declared.Refusal.TheVariants as row
use Rattle.reasons.specs.Reason.{at_byte}
use Rattle.reasons.proofs.at_pec.Goals as goal

pub returns : goal.returns
returns c =
    let a = c.args in
    let line = a.line.now in
    c.at_byte.ensures ∙ ap (λ (b : ℕ). at_byte line row.Pec c.shape_of-s.result.covered (Some b)) c.pec_before.ensures
    ∙ ap (λ (s : Shape). at_byte line row.Pec s.covered (Some (pec_of (tabulated (byte_at line) s.covered 0)))) c.shape_of-s.ensures
