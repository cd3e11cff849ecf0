-- `step` meets its contract: a device beyond the chain is turned away, and one of it is a span of one.
use mathlib.Core.Path.{◌≡◌, refl, ap, ◌∙◌}
use mathlib.Core.Bool.{Bool, true, false, ◌&&◌}
use lib.ListN.{length}
use borrow.Author.Tests.{le-ltb}
use Rattle.registers.specs.Memory.{is_chain}
use Rattle.twin.specs.Step.{chain_with, hop}
use Rattle.twin.proofs.Span.{as_step}
use Rattle.twin.proofs.Stepping.{turned_away}
use Rattle.twin.proofs.step.step.Goals as goal

and_false : (t : Bool) → (t && false) ≡ false
and_false true = refl
and_false false = refl

pub returns-then-n-device : goal.returns-then-n-device
returns-then-n-device c =
    let a = c.args in
    let s = chain_with a.memory.now a.line.now in
    let chain = is_chain a.n (length a.memory.now) in
    turned_away _ s (hop a.n a.device s) a.out.now
    (ap (λ (t : Bool). chain && t) (le-ltb a.device a.n c.if-n-device.true) ∙ and_false chain)

pub returns : goal.returns
returns c = as_step _ _ _ _ _ _ _ _ c.if-n-device.false c.run_span.ensures
