-- `bring_on` meets its contract: the table's rule at the byte before.
use mathlib.Core.Path.{ap, ◌∙◌}
use mathlib.Core.List.{List}
use Prim.Native.Nat.{ℕ}
use native.Mathlib.Nat.{zero-add}
use lib.Bits.{bit_xor}
use lib.ListN.{get_or}
use Rattle.ground.proofs.Sweep.{tabulated_at}
use Rattle.remainder.specs.Register.{times}
use Rattle.pec.specs.Pec.{bit_step}
use Rattle.pec.specs.Moved.{moved}
use Rattle.pec.proofs.bring_on.Goals as goal

pub returns : goal.returns
unfolding moved
returns c =
    let a = c.args in
    ap (λ (x : ℕ). bit_xor x a.byte)
    (ap (λ (t : List ℕ). get_or t a.before 0) c.requires ∙ tabulated_at (times 32 bit_step) 256 0 a.before c.ranges.before.fits
    ∙ ap (times 32 bit_step) (zero-add a.before))
