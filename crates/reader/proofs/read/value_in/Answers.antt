-- `value_in` meets its contract: of m values the one k devices from the lowest stands m - 1 - k words behind the first two bytes.
use mathlib.Core.Path.{◌∙◌}
use Rattle.reader.proofs.Values.{value_at}
use Rattle.reader.proofs.read.value_in.Goals as goal

pub returns : goal.returns
returns c =
    let a = c.args in
    let pre = c.requires in
    c.join.ensures ∙ value_at a.bytes.now a.m pre.1 a.k pre.0
