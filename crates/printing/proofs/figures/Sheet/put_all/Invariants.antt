-- `put_all` meets its contract: the loop keeps the bytes so far laid from the first place on.
use lib.ListN.{take}
use Rattle.printing.specs.Print.{Laid}
use Rattle.printing.proofs.figures.Sheet.put_all.Given as goal

abbrev pub invariant-loop-byte : goal.invariant-loop-byte
invariant-loop-byte l = Laid l.initial.self (take l.byte-index l.bytes) l.self
