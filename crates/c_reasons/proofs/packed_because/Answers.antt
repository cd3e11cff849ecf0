-- `packed_because` meets its contract: no part runs over into the next.
use native.Mathlib.Omega.{arith}
use Prim.Native.Nat.{◌≤◌}
use Rattle.c_reasons.proofs.OnWords.{how_most, one_most}
use Rattle.c_reasons.proofs.packed_because.Goals as goal

-- how it is placed has three bits, whether one thing alone would have passed has one
small : (c : goal.After-sixteen-other)
    → (c.how_placed-how.result ≤ 4) × (c.is_one-one.result ≤ 1)
small c =
    let b = c.args.b in
    (omega (arith, c.how_placed-how.ensures, how_most b.spot), omega (arith, c.is_one-one.ensures, one_most b.right))

pub overflow_mul-result : goal.overflow_mul-result
overflow_mul-result c = omega (arith, small c, c.sixteen-place.ensures, c.sixteen-thing.ensures, c.sixteen-other.ensures)

pub overflow_add-result : goal.overflow_add-result
overflow_add-result c = omega (arith, small c, c.sixteen-place.ensures, c.sixteen-thing.ensures, c.sixteen-other.ensures)

pub overflow_mul-result-2 : goal.overflow_mul-result-2
overflow_mul-result-2 c = omega (arith, small c, c.sixteen-place.ensures, c.sixteen-thing.ensures, c.sixteen-other.ensures)

pub overflow_add-result-2 : goal.overflow_add-result-2
overflow_add-result-2 c = omega (arith, small c, c.sixteen-place.ensures, c.sixteen-thing.ensures, c.sixteen-other.ensures)

pub overflow_add-result-3 : goal.overflow_add-result-3
overflow_add-result-3 c = omega (arith, small c, c.sixteen-place.ensures, c.sixteen-thing.ensures, c.sixteen-other.ensures)

pub overflow_add-result-4 : goal.overflow_add-result-4
overflow_add-result-4 c = omega (arith, small c, c.sixteen-place.ensures, c.sixteen-thing.ensures, c.sixteen-other.ensures)

pub overflow_add-result-5 : goal.overflow_add-result-5
overflow_add-result-5 c = omega (arith, small c, c.sixteen-place.ensures, c.sixteen-thing.ensures, c.sixteen-other.ensures)
