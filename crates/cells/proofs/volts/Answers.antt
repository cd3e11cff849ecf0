-- `volts`: the product is a small whole number, so the cast is exact; the quotient is rounded once; and 0 V is plus zero. Factor and divisor
-- are read off the code (`_`; a literal below zero is the `neg` of one above): all of it would hold of -5 and -16384.0, but the sign of 0 V.
use mathlib.Core.Path.{refl}
use lib.Ieee.{of_bits, neg}
use Rattle.cells.proofs.Quotient.{quotient}
use Rattle.cells.proofs.volts.Goals as goal

pub returns : goal.returns
unfolding of_bits neg
returns c =
    quotient c.args.d c.requires _ refl _ refl
    -- the sign of 0 V
    refl
