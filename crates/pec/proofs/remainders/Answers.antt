-- `remainders` meets its contract: the table is computed from its rule, all of it at once.
use mathlib.Core.Path.{refl}
use Rattle.remainder.specs.Register.{times}
use Rattle.pec.specs.Pec.{bit_step}
use Rattle.pec.proofs.remainders.Goals as goal

pub returns : goal.returns
unfolding times bit_step
returns c = refl
