-- `read_head` meets its contract: the check is the PEC of the three bytes before it, and the alive byte is counted where it is on.
use mathlib.Core.Path.{ap₂}
use mathlib.Core.List.{[], ◌∷◌}
use Prim.Native.Nat.{ℕ}
use Rattle.pec.proofs.Byte.{three_steps}
use Rattle.heads.proofs.read_head.Goals as goal

pub returns : goal.returns
returns c =
    let a = c.args in
    ap₂ (λ (check count : ℕ). record { bytes = a.first ∷ a.q.reg ∷ 0 ∷ check ∷ a.q.seed ∷ 0 ∷ []; count = count })
    (three_steps a.first a.q.reg 0 c.step.ensures c.step-2.ensures c.step-check.ensures)
    c.with_alive.ensures
