-- `at_echo` meets its contract: it is told with the byte that was asked there.
use Rattle.std.specs.Prelude.{Some}
use Rattle.std.proofs.Common.{ℕ, ap, ◌∙◌}
use Rattle.readings.specs.declared.Refusal.TheVariants as row
use Rattle.reasons.specs.Reason.{at_byte, asked_byte}
use Rattle.reasons.proofs.at_echo.Goals as goal

pub returns : goal.returns
returns c =
    let a = c.args in
    let line = a.line.now in
    c.at_byte.ensures ∙ ap (λ (b : ℕ). at_byte line row.Echo c.echo_place-i.result (Some b)) c.asked_byte.ensures
    ∙ ap (λ (i : ℕ). at_byte line row.Echo i (Some (asked_byte a.q i))) c.echo_place-i.ensures
