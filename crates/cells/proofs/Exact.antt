-- The volts are exact: the single-precision number of d steps is d * 5 / 16384, not near it, zero is plus zero, and no
-- other single-precision number has that value and sign.
use mathlib.Core.Path.{◌≡◌, refl, sym}
use mathlib.Core.Bool.{Bool, false}
use Prim.Native.Nat.{ℕ, ◌*◌, ◌<◌, ◌^◌}
use native.Mathlib.Nat.{mul_assoc, zero-lt-suc, lt_of_lt_of_le}
use native.Mathlib.Omega.{arith}
use lib.Dec.{T, lit≤}
use lib.Pow.{shl_lt}
use lib.IntN.{ℤ, pos, nat_abs}
use lib.Ieee.{Float, fin, binary32, round, fits}
use lib.Ieee.Fits.{round-fits}
use lib.Ieee.Exact.{HasValue, round_exact}
use Rattle.cells.specs.Voltage.{steps_of, negative, volts_of, voltage_of}
use Rattle.cells.specs.declared.Range.{Range}
use Rattle.cells.proofs.Scaled.{few_steps}
use Rattle.cells.proofs.Determined.{determined}

quotient_exact : (s : Bool) (a : ℕ) → a < 2 ^ 24 → HasValue (round binary32 s a 16384) s a 16384
quotient_exact s a small =
    round_exact binary32 s a 16384 a 135 (zero-lt-suc 16383) small
    (lt_of_lt_of_le (shl_lt 24 135 small) (lit≤ tt))
    (sym (mul_assoc a (2 ^ 135) 16384))

pub volts_exact : (d : ℤ) → nat_abs d < 16384 → HasValue (volts_of d) (negative d) (nat_abs d * 5) 16384
unfolding volts_of
volts_exact d h = quotient_exact (negative d) (nat_abs d * 5) (omega arith)

pub volts_fit : (d : ℤ) → T (fits binary32 (volts_of d))
unfolding volts_of
volts_fit d = round-fits binary32 (negative d) (nat_abs d * 5) 16384

pub zero_is_plus : volts_of (pos 0) ≡ fin false 0 (pos 0)
unfolding volts_of round
zero_is_plus = refl

pub volts_determined : (d : ℤ) → nat_abs d < 16384 → (x : Float) → T (fits binary32 x) → HasValue x (negative d) (nat_abs d * 5) 16384 → x ≡ volts_of d
volts_determined d h x p v = determined binary32 x (volts_of d) (negative d) (nat_abs d * 5) 16384 (zero-lt-suc 16383) p (volts_fit d) v (volts_exact d h)

-- of every measurement, in either range
pub code_exact : (range : Range) (m : ℕ) → m < 16384 → HasValue (voltage_of range m).volts (negative (steps_of range m)) (nat_abs (steps_of range m) * 5) 16384
code_exact range m h = volts_exact (steps_of range m) (few_steps range m h)
