-- `true_bits` meets its contract: the gathered bits are the definition's.
use native.Mathlib.Omega.{arith}
use lib.Bits.{bit_and}
use Prim.Native.Nat.{◌/◌}
use Rattle.characters.proofs.Spread.{few_gathered, gather}
use Rattle.characters.proofs.true_bits.Goals as goal

pub overflow_cast-result : goal.overflow_cast-result
overflow_cast-result c = omega (arith, few_gathered (bit_and (c.args.w / 2) 0x55))

pub returns : goal.returns
returns c = gather c.args.w
