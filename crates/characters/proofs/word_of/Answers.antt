-- `word_of` meets its contract: the spread bits are the definition's, of each of the 256 bytes.
use native.Mathlib.Omega.{arith}
use Rattle.characters.proofs.Spread.{few_pairs, few_singles, spread}
use Rattle.characters.proofs.word_of.Goals as goal

pub overflow_mul-singles : goal.overflow_mul-singles
overflow_mul-singles c = omega (arith, few_pairs c.args.n)

pub overflow_mul-result : goal.overflow_mul-result
overflow_mul-result c = omega (arith, few_singles c.args.n)

pub overflow_sub-result : goal.overflow_sub-result
overflow_sub-result c = omega (arith, few_singles c.args.n)

pub returns : goal.returns
returns c = spread c.args.n c.ranges.n.fits
