-- `power_on` meets its contract: row 15 decides, and the filling does the rest.
use mathlib.Core.Path.{sym, ◌∙◌}
use Rattle.registers.proofs.Power.{turned_away, filled}
use Rattle.registers.proofs.power_on.Goals as goal

pub returns-then-not-is_chain : goal.returns-then-not-is_chain
returns-then-not-is_chain c =
    let a = c.args in
    turned_away a.n a.memory.now (sym c.is_chain.ensures ∙ c.if-not-is_chain.true)

pub returns : goal.returns
returns c =
    let a = c.args in
    let chain = c.is_chain in
    filled a.n a.memory.now c.fill.new.memory (sym chain.ensures ∙ c.if-not-is_chain.false)
    c.fill.ensures
