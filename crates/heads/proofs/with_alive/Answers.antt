-- `with_alive` meets its contract: the test decides.
use borrow.Author.Tests.{eq-eqb, ne_eqb}
use Rattle.heads.proofs.with_alive.Goals as goal

pub returns-then-q-eq1 : goal.returns-then-q-eq1
returns-then-q-eq1 c = simp (eq-eqb _ _ c.if-q-eq1.true)

pub returns : goal.returns
returns c = simp (ne_eqb _ _ c.if-q-eq1.false)
