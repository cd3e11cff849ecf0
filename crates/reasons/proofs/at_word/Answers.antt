-- `at_word` meets its contract: what stands there is the word.
use Rattle.std.proofs.Common.{ℕ, ap}
use Rattle.reasons.specs.Reason.{found}
use Rattle.reasons.specs.declared.Spot.TheVariants.{Word}
use Rattle.reasons.proofs.at_word.Goals as goal

pub returns : goal.returns
returns c =
    let a = c.args in
    ap (λ (w : ℕ). found a.why (Word a.i) w a.right) c.element_or.ensures
