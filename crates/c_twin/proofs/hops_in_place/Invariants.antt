-- `hops_in_place` meets its contract: the loop keeps memory and line as the devices of the span so far have left them.
use mathlib.Core.Path.{◌≡◌}
use Rattle.packing.specs.Words.{words_of}
use Rattle.twin.specs.Step.{chain_with, hops_from}
use Rattle.c_twin.proofs.hops_in_place.Given as goal

abbrev pub invariant-loop-device : goal.invariant-loop-device
invariant-loop-device l =
    (words_of l.memory ≡ (hops_from l.span.n l.span.from l.device (chain_with (words_of l.initial.memory) l.initial.line)).memory)
    × (l.line ≡ (hops_from l.span.n l.span.from l.device (chain_with (words_of l.initial.memory) l.initial.line)).line)
