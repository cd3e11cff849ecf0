-- `print` meets its contract: the length that `lay` tells of memory of one byte is the text's, so that it is laid only where it has room.
use native.Mathlib.Omega.{arith}
use Rattle.printing.proofs.Printing.{too_many, no_room, printed}
use Rattle.printing.proofs.print.Goals as goal

pub returns-then-numbers-gt-MOST_ENTRIES : goal.returns-then-numbers-gt-MOST_ENTRIES
returns-then-numbers-gt-MOST_ENTRIES c = let a = c.args in too_many a.version a.n a.numbers.now a.standing a.text.now (omega arith)

pub returns-then-text-end : goal.returns-then-text-end
returns-then-text-end c =
    let a = c.args in
    no_room a.version a.n a.numbers.now a.standing a.text.now (omega arith) (omega (arith, c.lay-end.ensures.up))

pub returns : goal.returns
returns c =
    let a = c.args in
    printed a.version a.n a.numbers.now a.standing a.text.now (omega arith) (omega (arith, c.lay-end.ensures.up)) c.lay.ensures
