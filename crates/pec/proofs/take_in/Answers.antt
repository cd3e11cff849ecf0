-- `take_in` meets its contract: the table's rule at the byte folded into the state.
use mathlib.Core.Path.{ap, ◌∙◌}
use mathlib.Core.List.{List}
use Prim.Native.Nat.{ℕ}
use mir.Syntax.{w64}
use lib.Bits.{bit_xor, xor_lt}
use lib.ListN.{get_or}
use Rattle.pec.proofs.Byte.{folded_fits, by_table}
use borrow.Author.Rules.{rules}
use Rattle.pec.proofs.take_in.Goals as goal

pub overflow_cast-result : goal.overflow_cast-result
overflow_cast-result c = search (rules, folded_fits w64)

pub bounds-table-crc : goal.bounds-table-crc
bounds-table-crc c = search (rules, xor_lt 8)

pub returns : goal.returns
returns c =
    let a = c.args in
    ap (λ (t : List ℕ). get_or t (bit_xor a.crc a.byte) 0) c.requires ∙ by_table a.crc a.byte c.ranges.crc.fits c.ranges.byte.fits
