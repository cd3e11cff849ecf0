-- `put_pairs` meets its contract: the loop keeps so many fill pairs stored from the start on, and all else as it was.
use mathlib.Core.Path.{◌≡◌}
use lib.ListN.{length}
use lib.Seq.{sets}
use Rattle.lines.specs.Line.{characters_of}
use Rattle.questions.specs.Bytes.{fill_pairs}
use Rattle.commands.proofs.put_pairs.Given as goal

abbrev pub invariant-loop-k : goal.invariant-loop-k
invariant-loop-k l = (l.out ≡ sets l.initial.out l.start (characters_of (fill_pairs l.k))) × (length l.out ≡ length l.initial.out)
