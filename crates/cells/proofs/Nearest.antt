-- The microvolts of d steps are the whole number nearest to d * 78125 / 256, a half going away from zero: in 256ths they
-- lie at most a half above it and less than a half below.
use Prim.Native.Nat.{ℕ, ◌+◌, ◌*◌, ◌<◌, ◌≤◌}
use native.Mathlib.Omega.{arith}
use Rattle.cells.specs.Voltage.{nearest_microvolts}

pub nearest : (d : ℕ) → (nearest_microvolts d * 256 ≤ d * 78125 + 128) × (d * 78125 < nearest_microvolts d * 256 + 128)
nearest d = (omega arith, omega arith)
