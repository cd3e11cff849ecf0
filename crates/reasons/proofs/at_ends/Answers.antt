-- `at_ends` meets its contract: the first word decides which end is told.
use Rattle.std.specs.Prelude.{Some}
use Rattle.std.proofs.Common.{ℕ, sym, ap, ◌∙◌}
use Rattle.characters.specs.Character.{stop}
use Rattle.readings.specs.declared.Refusal.TheVariants as row
use Rattle.reasons.specs.Reason.{at_word}
use Rattle.reasons.proofs.Told.{the_first_word, the_last_word}
use Rattle.reasons.proofs.at_ends.Goals as goal

pub returns-then-element_or-ne-PREAMBLE : goal.returns-then-element_or-ne-PREAMBLE
returns-then-element_or-ne-PREAMBLE c =
    let a = c.args in
    c.at_word.ensures ∙ the_first_word a.line.now (λ e. c.if-element_or-ne-PREAMBLE.true (c.element_or.ensures ∙ e))

pub returns : goal.returns
returns c =
    let a = c.args in
    c.at_word-2.ensures ∙ ap (λ (i : ℕ). at_word a.line.now row.Frame i (Some stop)) c.last_place.ensures
    ∙ the_last_word a.line.now (sym c.element_or.ensures ∙ c.if-element_or-ne-PREAMBLE.false)
