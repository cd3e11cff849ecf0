-- `at_field` meets its contract: what stood and what would have passed are the field's.
use Rattle.std.specs.Prelude.{Option}
use Rattle.std.proofs.Common.{ℕ, ap₂}
use Rattle.readings.specs.declared.Refusal.TheVariants as row
use Rattle.reasons.specs.Reason.{found}
use Rattle.reasons.specs.declared.Spot.TheVariants.{Asked}
use Rattle.reasons.proofs.at_field.Goals as goal

pub returns : goal.returns
returns c =
    let a = c.args in
    ap₂ (λ (stood : ℕ) (right : Option ℕ). found row.Question (Asked a.field) stood right) c.field_in.ensures c.field_right.ensures
