-- The voltage of a measurement (document 01, "Cells"): unipolar m*5/16384 V, bipolar (m-8192)*5/16384 V.
use Rattle.std.specs.Prelude.{Bool, true, false, ℕ, suc, ◌+◌, ◌*◌, ◌/◌, ℤ, pos, negsuc, neg_ℤ, nat_abs, Float, ◌≡◌, ◌<◌, Result, MatchResult}
use Rattle.std.proofs.Math.IntN.{sub_ℕ}
use Rattle.std.specs.Float.{binary32}
use Rattle.std.specs.Float.Ieee.{round}
use Rattle.cells.specs.declared.Range.{Range}
use Rattle.cells.specs.declared.Range.TheVariants.{Unipolar, Bipolar}
use Rattle.cells.specs.declared.NoRange.{NoRange}
use Rattle.cells.specs.declared.Voltage.{Voltage}

-- the number that names a range
abbrev pub range_number : Range → ℕ
range_number Unipolar = 0
range_number Bipolar = 1

-- the range that a number names, and any number above 1 names none
abbrev pub IsRangeOf : ℕ → Result Range NoRange → Type 0
IsRangeOf bipolar r = MatchResult r (λ range. range_number range ≡ bipolar) (λ none. 1 < bipolar)

-- how many steps of 5/16384 V a measurement stands from 0 V
abbrev pub steps_of : Range → ℕ → ℤ
steps_of Unipolar m = pos m
steps_of Bipolar m = sub_ℕ m 8192

-- d steps in microvolts: d * 78125 / 256, nearest, a half going away from zero
abbrev pub nearest_microvolts : ℕ → ℕ
nearest_microvolts d = (d * 78125 + 128) / 256

unfoldable pub microvolts_of : ℤ → ℤ
microvolts_of (pos d) = pos (nearest_microvolts d)
microvolts_of (negsuc d) = neg_ℤ (pos (nearest_microvolts (suc d)))

-- below 0 V, and 0 V is not
abbrev pub negative : ℤ → Bool
negative (pos d) = false
negative (negsuc d) = true

-- d steps in volts, d * 5 / 16384, in single precision; that nothing is rounded away is a law
unfoldable pub volts_of : ℤ → Float
volts_of d = round binary32 (negative d) (nat_abs d * 5) 16384

abbrev pub voltage_of : Range → ℕ → Voltage
voltage_of range m = record { microvolts = microvolts_of (steps_of range m); volts = volts_of (steps_of range m) }
