-- `pec` meets its contract: four bytes brought on and the bytes still to come always have the whole list's PEC.
use mathlib.Core.Path.{◌≡◌}
use mathlib.Core.List.{[], ◌∷◌}
use Prim.Native.Nat.{◌-◌, ◌≤◌}
use lib.ListN.{length, drop}
use Rattle.remainder.specs.Register.{run}
use Rattle.pec.specs.Pec.{byte_step, pec_of}
use Rattle.pec.proofs.pec.Given as goal

abbrev pub invariant-loop-i : goal.invariant-loop-i
invariant-loop-i l =
    (l.i ≤ length l.bytes) × (run byte_step (run byte_step 0 (l.a ∷ l.b ∷ l.c ∷ l.d ∷ [])) (drop l.i l.bytes) ≡ pec_of l.bytes)

abbrev pub decreases-loop-i : goal.decreases-loop-i
decreases-loop-i l = length l.bytes - l.i
