-- `step` meets its contract: its shifts make of each of the 256 states what eight bits do.
use mathlib.Core.Path.{refl}
use Rattle.remainder.specs.Register.{times}
use Rattle.pec.specs.Pec.{bit_step}
use Rattle.pec.proofs.Byte.{eight_bits, shifts, by_shifts, folded_fits, up_fits, down_lt}
use mir.Syntax.{w32}
use borrow.Author.Rules.{rules}
use Rattle.pec.proofs.step.Goals as goal

-- what is folded together is a byte, and fits moved up as well
pub overflow_cast-x : goal.overflow_cast-x
overflow_cast-x c = search (rules, folded_fits w32)

pub overflow_mul-q : goal.overflow_mul-q
overflow_mul-q c = search (rules, up_fits)

pub overflow_mul-q-2 : goal.overflow_mul-q-2
overflow_mul-q-2 c = search (rules, up_fits)

pub overflow_mul-q-3 : goal.overflow_mul-q-3
overflow_mul-q-3 c = search (rules, up_fits)

pub overflow_cast-result : goal.overflow_cast-result
overflow_cast-result c = search (rules, down_lt)

pub returns : goal.returns
unfolding shifts eight_bits times bit_step
returns c = by_shifts _ _ _ _ _ _ c.args.crc c.args.byte c.ranges.crc.fits c.ranges.byte.fits refl
