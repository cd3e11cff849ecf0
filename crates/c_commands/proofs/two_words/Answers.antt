-- `two_words` meets its contract: the spread bits are the definition's, of each of the 256 bytes.
use native.Mathlib.Omega.{arith}
use Rattle.c_commands.proofs.TwoWords.{few_apart, few_pairs, few_singles, two_words}
use Rattle.c_commands.proofs.two_words.Goals as goal

pub overflow_mul-pairs : goal.overflow_mul-pairs
overflow_mul-pairs c = omega (arith, few_apart c.args.byte)

pub overflow_mul-singles : goal.overflow_mul-singles
overflow_mul-singles c = omega (arith, few_pairs c.args.byte)

pub overflow_mul-result : goal.overflow_mul-result
overflow_mul-result c = omega (arith, few_singles c.args.byte)

pub overflow_sub-result : goal.overflow_sub-result
overflow_sub-result c = omega (arith, few_singles c.args.byte)

pub returns : goal.returns
returns c = two_words c.args.byte c.ranges.byte.fits
