-- `join_nibbles` meets its contract: the loop keeps the places passed at their two nibbles' bytes, and passes them all.
use mathlib.Core.Path.{◌≡◌}
use mathlib.Core.List.{List}
use Prim.Native.Nat.{ℕ, ◌≤◌}
use lib.ListN.{length, get_or}
use lib.Seq.{sets}
use Rattle.ground.specs.Sweep.{tabulated}
use Rattle.lines.specs.Nibbles.{two_of}
use Rattle.lines.proofs.read.join_nibbles.Given as goal

-- byte k of a list of nibbles
abbrev pub of_nibbles : List ℕ → ℕ → ℕ
of_nibbles nibbles = two_of (λ i. get_or nibbles i 0)

abbrev pub invariant-loop-k : goal.invariant-loop-k
invariant-loop-k l = (l.k ≤ length l.initial.out) × (l.out ≡ sets l.initial.out 0 (tabulated (of_nibbles l.nibbles) l.k 0)) × (length l.out ≡ length l.initial.out)
