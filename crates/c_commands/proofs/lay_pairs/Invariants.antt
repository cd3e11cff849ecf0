-- `lay_pairs` meets its contract: the loop keeps so many fill pairs laid from the start on, and all else as it was.
use mathlib.Core.Path.{◌≡◌}
use lib.ListN.{length}
use Rattle.lines.specs.Line.{characters_of}
use Rattle.questions.specs.Bytes.{fill_pairs}
use Rattle.c_commands.specs.CommandBytes.{laid}
use Rattle.c_commands.proofs.lay_pairs.Given as goal

abbrev pub invariant-loop-k : goal.invariant-loop-k
invariant-loop-k l = (l.out ≡ laid l.initial.out l.start (characters_of (fill_pairs l.k))) × (length l.out ≡ length l.initial.out)
