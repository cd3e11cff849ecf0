-- `screen_words` meets its contract: a clean line passes rows 4 to 6, and any other is put to them.
use mathlib.Core.Path.{sym, ◌∙◌}
use Rattle.judging.proofs.Clean.{clean_passes}
use Rattle.judging.proofs.screen_words.Goals as goal

pub returns-then-is_clean : goal.returns-then-is_clean
returns-then-is_clean c =
    let a = c.args in
    clean_passes a.line.now (sym c.is_clean.ensures ∙ c.if-is_clean.true)

pub returns : goal.returns
returns c = c.screen_in_order.ensures
