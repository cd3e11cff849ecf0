-- `lay_bytes` meets its contract: the loop keeps the characters of the bytes passed laid behind the preamble, and all else as it was.
use mathlib.Core.Path.{◌≡◌}
use Prim.Native.Nat.{◌≤◌}
use lib.ListN.{length, take}
use Rattle.lines.specs.Line.{characters_of}
use Rattle.c_commands.specs.CommandBytes.{laid}
use Rattle.c_commands.proofs.lay_bytes.Given as goal

abbrev pub invariant-loop-i : goal.invariant-loop-i
invariant-loop-i l = (l.i ≤ length l.bytes) × (l.out ≡ laid l.initial.out 2 (characters_of (take l.i l.bytes))) × (length l.out ≡ length l.initial.out)
