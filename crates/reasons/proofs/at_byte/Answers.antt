-- `at_byte` meets its contract: what stands there is the byte.
use Rattle.std.proofs.Common.{ℕ, ap}
use Rattle.reasons.specs.Reason.{found}
use Rattle.reasons.specs.declared.Spot.TheVariants.{Byte}
use Rattle.reasons.proofs.at_byte.Goals as goal

pub returns : goal.returns
returns c =
    let a = c.args in
    ap (λ (b : ℕ). found a.why (Byte a.i) b a.right) c.byte_at.ensures
