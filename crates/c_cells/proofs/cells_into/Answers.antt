-- `cells_into` meets its contract: the range named is the definition's, and so is what the twelve cells give.
use Rattle.c_cells.proofs.Named.{named_cells, none_cells}
use Rattle.c_cells.proofs.cells_into.Goals as goal

pub returns-in_default : goal.returns-in_default
returns-in_default c =
    let a = c.args in none_cells a.enabled a.bipolar a.registers.now a.microvolts.now a.volts.now a.answers.now c.in_default.ensures

pub returns : goal.returns
returns c =
    let a = c.args in
    named_cells a.enabled a.bipolar a.registers.now a.microvolts.now _ a.volts.now _ a.answers.now _ c.cells_by.result c.in-Ok.range
    c.in-Ok.ensures c.cells_by.ensures
