-- `byte_count` meets its contract: between the ends of a line stand two words less than on it, two for each byte.
use native.Mathlib.Omega.{arith}
use Rattle.lines.proofs.Line.{length_bytes}
use Rattle.lines.proofs.read.byte_count.Goals as goal

pub returns-then-line-lt2 : goal.returns-then-line-lt2
returns-then-line-lt2 c = omega (arith, length_bytes c.args.line.now, c.if-line-lt2.true)

pub returns : goal.returns
returns c = omega (arith, length_bytes c.args.line.now, c.if-line-lt2.false)
