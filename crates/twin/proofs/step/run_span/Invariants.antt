-- `run_span` meets its contract: the loop keeps the chain as the devices of the span so far have left it.
use mathlib.Core.Path.{◌≡◌}
use mathlib.Core.List.{◌++◌}
use lib.ListN.{length, drop}
use Rattle.twin.specs.Step.{chain_with, hops_from}
use Rattle.twin.proofs.step.run_span.Given as goal

abbrev pub invariant-loop-device : goal.invariant-loop-device
invariant-loop-device l =
    (l.memory ≡ (hops_from l.n l.from l.device (chain_with l.initial.memory l.line)).memory)
    × (l.out ≡ (hops_from l.n l.from l.device (chain_with l.initial.memory l.line)).line ++ drop (length l.line) l.initial.out)
