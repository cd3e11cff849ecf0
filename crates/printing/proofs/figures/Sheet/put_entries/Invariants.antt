-- `put_entries` meets its contract: the loop keeps the lines of the entries so far laid from the first place on.
use Rattle.printing.specs.Text.{first_lines}
use Rattle.printing.specs.Print.{Laid}
use Rattle.printing.proofs.Lengths.{entry_at}
use Rattle.printing.proofs.figures.Sheet.put_entries.Given as goal

abbrev pub invariant-loop-k : goal.invariant-loop-k
invariant-loop-k l = Laid l.initial.self (first_lines (entry_at l.numbers) l.k) l.self
