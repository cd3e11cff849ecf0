-- No reading has both of a pair that is packed side by side: a refusal's byte and HELLOALL's count, a place and a number of values. So what holds
-- each of the two holds their sum.
use Prim.Native.Nat.{ℕ, ◌+◌, ◌<◌}
use native.Mathlib.Omega.{arith}
use Rattle.readings.specs.Reading.{place_of, byte_of, count_of, values_taken}
use Rattle.std.specs.Prelude.{Result, Ok, Err}
use Rattle.readings.specs.declared.Refusal.{Refusal}
use Rattle.readings.specs.declared.Taken.{Taken}
use Rattle.readings.specs.declared.Taken.TheVariants.{Counted, Written, Values}

pub byte_or_count : (r : Result Taken Refusal) (m : ℕ) → byte_of r < m → count_of r < m → byte_of r + count_of r < m
byte_or_count (Ok (Counted n)) m byte count = omega arith
byte_or_count (Ok Written) m byte count = omega arith
byte_or_count (Ok (Values k)) m byte count = omega arith
byte_or_count (Err why) m byte count = omega arith

pub place_or_values : (r : Result Taken Refusal) (m : ℕ) → place_of r < m → values_taken r < m → place_of r + values_taken r < m
place_or_values (Ok (Counted n)) m place values = omega arith
place_or_values (Ok Written) m place values = omega arith
place_or_values (Ok (Values k)) m place values = omega arith
place_or_values (Err why) m place values = omega arith
