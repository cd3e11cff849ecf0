-- `cell_into` meets its contract: the range named is the definition's, and so is what the cell gives.
use Rattle.c_cells.proofs.Named.{named_done, none_done}
use Rattle.c_cells.proofs.cell_into.Goals as goal

pub returns-in_default : goal.returns-in_default
returns-in_default c = let a = c.args in none_done a.cell a.enabled a.register a.bipolar a.microvolts.now a.volts.now c.in_default.ensures

pub returns : goal.returns
returns c =
    let a = c.args in
    named_done a.cell a.enabled a.register a.bipolar a.microvolts.now _ a.volts.now _ c.give.result c.in-Ok.range
    c.read_cell.result c.in-Ok.ensures c.read_cell.ensures c.give.ensures
