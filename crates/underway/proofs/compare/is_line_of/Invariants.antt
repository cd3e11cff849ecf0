-- `is_line_of` meets its contract: the loop keeps that each byte passed stands at its place, and the last word decides.
use Rattle.std.proofs.Common.{◌≡◌, ℕ, ◌<◌, true, get_or}
use Rattle.underway.specs.TakeUp.{byte_stands}
use Rattle.underway.proofs.compare.is_line_of.Given as goal

abbrev pub invariant-loop-i : goal.invariant-loop-i
invariant-loop-i l = (j : ℕ) → j < l.i → byte_stands l.line j (get_or l.bytes j 0) ≡ true
