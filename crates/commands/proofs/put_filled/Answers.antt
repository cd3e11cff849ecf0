-- `put_filled` meets its contract: the line of the bytes alone, its stop character moved behind the fill pairs, is the whole line.
use mathlib.Core.Path.{ap, ◌∙◌}
use mathlib.Core.List.{List}
use Prim.Native.Nat.{ℕ}
use lib.ListN.{set, length-set}
use Rattle.characters.specs.Character.{stop}
use Rattle.commands.proofs.Filled.{end, filled_refused, filled_written}
use Rattle.commands.proofs.put_filled.Goals as goal

pub returns-then-out-end : goal.returns-then-out-end
returns-then-out-end c =
    let a = c.args in
    filled_refused a.head.now a.out.now a.pairs c.if-out-end.true

pub shape_of-out : goal.shape_of-out
shape_of-out c = simp length-set (c.put_pairs.auto.out ∙ c.put_line.auto.out)

pub returns : goal.returns
returns c =
    let a = c.args in
    let put = c.put_line in
    filled_written a.head.now a.out.now a.pairs put.new.out _ put.result c.if-out-end.false put.ensures
    (ap (λ (words : List ℕ). set words (end a.head.now a.pairs) stop) c.put_pairs.ensures)
