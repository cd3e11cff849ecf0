-- `give_all` meets its contract: after k turns the lent memories are as the first k cells leave them.
use mathlib.Core.Path.{◌≡◌}
use Prim.Native.Nat.{◌-◌, ◌≤◌}
use lib.ListN.{length, take}
use Rattle.c_cells.specs.CellBytes.{microvolts_or, volts_or}
use Rattle.c_cells.specs.CellsBytes.{packed_or, by_cell}
use Rattle.c_cells.proofs.give_all.Given as goal

abbrev pub invariant-loop-k : goal.invariant-loop-k
invariant-loop-k l =
    (l.k ≤ 12) × (l.microvolts ≡ by_cell microvolts_or (take l.k l.cells) l.initial.microvolts) × (l.volts ≡ by_cell volts_or (take l.k l.cells) l.initial.volts)
    × (l.answers ≡ by_cell packed_or (take l.k l.cells) l.initial.answers)
    × (length l.microvolts ≡ length l.initial.microvolts) × (length l.volts ≡ length l.initial.volts) × (length l.answers ≡ length l.initial.answers)

abbrev pub decreases-loop-k : goal.decreases-loop-k
decreases-loop-k l = 12 - l.k
