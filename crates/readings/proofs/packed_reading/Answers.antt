-- `packed_reading` meets its contract: no sum runs over, since no reading has both of what is added.
use Prim.Native.Nat.{◌^◌}
use native.Mathlib.Omega.{arith}
use Rattle.readings.proofs.Packed.{byte_or_count, place_or_values}
use Rattle.readings.proofs.packed_reading.Goals as goal

pub overflow_add-upper : goal.overflow_add-upper
overflow_add-upper c =
    let place = c.place_of-place.ensures in
    let values = c.values_taken-values.ensures in
    let sum = place_or_values c.args.reading (2 ^ 64) (omega (arith, place)) (omega (arith, values)) in
    record { fits = omega (arith, sum, place, values) }

pub overflow_add-result-3 : goal.overflow_add-result-3
overflow_add-result-3 c =
    let byte = c.byte_of-byte.ensures in
    let count = c.count_of-count.ensures in
    let sum = byte_or_count c.args.reading 256 (omega (arith, byte)) (omega (arith, count)) in
    record { fits = omega (arith, sum, byte, count) }
