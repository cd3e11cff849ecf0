-- Nothing is left open: two answers that meet a function's contract, as its source states it, are the same.
use mathlib.Core.Path.{◌≡◌, refl, sym, ap, ◌∙◌}
use Prim.Native.Nat.{ℕ, ◌<◌}
use native.Mathlib.Omega.{arith}
use Rattle.ground.specs.Agree.{Settled}
use Rattle.std.specs.Prelude.{Result, Ok, Err}
use Rattle.cells.specs.declared.NoRange.{NoRange}
use Rattle.cells.specs.declared.Range.{Range}
use Rattle.cells.specs.declared.Range.TheVariants.{Unipolar, Bipolar}
use Rattle.cells.specs.Voltage.{range_number, IsRangeOf}
use Rattle.cells.proofs.read_cell.Reads as read_cell
use Rattle.cells.proofs.CellRefusalTurnedAway.number.Reads as number
use Rattle.cells.proofs.number_of.Reads as number_of_lem
use Rattle.cells.proofs.RangeTryFromU8.try_from.Reads as try_from

pub read_cell_settled : Settled read_cell.Post
read_cell_settled l given r r' left left' p q = p ∙ sym q

pub number_settled : Settled number.Post
number_settled l given r r' left left' p q = p ∙ sym q

pub number_of_settled : Settled number_of_lem.Post
number_of_settled l given r r' left left' p q = p ∙ sym q

-- a number names one range
one_range : (x y : Range) → range_number x ≡ range_number y → x ≡ y
one_range Unipolar Unipolar h = refl
one_range Unipolar Bipolar h = absurd (omega (arith, h))
one_range Bipolar Unipolar h = absurd (omega (arith, h))
one_range Bipolar Bipolar h = refl

named_or_none : (x : Range) (bipolar : ℕ) → range_number x ≡ bipolar → 1 < bipolar → ⊥
named_or_none Unipolar bipolar h more = omega (arith, h, more)
named_or_none Bipolar bipolar h more = omega (arith, h, more)

one_answer : (bipolar : ℕ) (r r' : Result Range NoRange) → IsRangeOf bipolar r → IsRangeOf bipolar r' → r ≡ r'
one_answer bipolar (Ok x) (Ok y) p q = ap Ok (one_range x y (p ∙ sym q))
one_answer bipolar (Ok x) (Err n) p q = absurd (named_or_none x bipolar p q)
one_answer bipolar (Err n) (Ok y) p q = absurd (named_or_none y bipolar q p)
one_answer bipolar (Err n) (Err m) p q = refl

pub try_from_settled : Settled try_from.Post
try_from_settled l given r r' left left' p q = one_answer _ r r' p q
