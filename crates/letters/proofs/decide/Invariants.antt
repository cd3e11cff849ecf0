-- `decide` meets its contract: the letters of the devices passed are decided, the others are still as they stood, and outside of the loop's
-- devices no letter is to be decided.
use mathlib.Core.Path.{◌≡◌}
use Prim.Native.Nat.{◌≤◌}
use lib.ListN.{length}
use Rattle.letters.proofs.Between.{from}
use Rattle.letters.proofs.SoFar.{SoFar}
use Rattle.letters.proofs.decide.Given as goal

abbrev pub invariant-loop-at : goal.invariant-loop-at
invariant-loop-at l =
    (from l.write l.q ≤ l.at) × (length l.letters ≡ 32) × SoFar l.write l.standing.mask l.q l.values l.initial.letters l.letters l.at
