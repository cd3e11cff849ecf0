-- `one_device` meets its contract: n is looked at.
use Rattle.std.specs.Prelude.{Some, None}
use Rattle.std.proofs.Common.{Bool, cond, sym, ap, eq-eqb, ne_eqb}
use Rattle.reasons.proofs.one_device.Goals as goal

pub returns-then-q-eq1 : goal.returns-then-q-eq1
returns-then-q-eq1 c = sym (ap (λ (t : Bool). cond t (Some 0) None) (eq-eqb c.args.q.n 1 c.if-q-eq1.true))

pub returns : goal.returns
returns c = sym (ap (λ (t : Bool). cond t (Some 0) None) (ne_eqb c.args.q.n 1 c.if-q-eq1.false))
