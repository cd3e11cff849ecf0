-- `echo_place` meets its contract: at each `return` the bytes before are as asked.
use Rattle.contents.proofs.Tests.{was_so, was_not}
use Rattle.reasons.proofs.echo_place.Goals as goal

pub returns-then-not-is_as_asked : goal.returns-then-not-is_as_asked
returns-then-not-is_as_asked c = simp (was_not c.is_as_asked.ensures c.if-not-is_as_asked.true)

pub returns-then-not-is_as_asked-2 : goal.returns-then-not-is_as_asked-2
returns-then-not-is_as_asked-2 c =
    simp (was_so c.is_as_asked.ensures c.if-not-is_as_asked.false, was_not c.is_as_asked-2.ensures c.if-not-is_as_asked-2.true)

pub returns-then-not-is_as_asked-3 : goal.returns-then-not-is_as_asked-3
returns-then-not-is_as_asked-3 c =
    simp (
      was_so c.is_as_asked.ensures c.if-not-is_as_asked.false,
      was_so c.is_as_asked-2.ensures c.if-not-is_as_asked-2.false,
      was_not c.is_as_asked-3.ensures c.if-not-is_as_asked-3.true,
    )

pub returns : goal.returns
returns c =
    simp (
      was_so c.is_as_asked.ensures c.if-not-is_as_asked.false,
      was_so c.is_as_asked-2.ensures c.if-not-is_as_asked-2.false,
      was_so c.is_as_asked-3.ensures c.if-not-is_as_asked-3.false,
    )
