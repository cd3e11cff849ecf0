-- How far two lists of bytes are apart once each has its PEC behind it (document 01, "Distance, and where it ends").
use Rattle.std.specs.Prelude.{ℕ, ◌+◌, List}
use Rattle.std.specs.Int.Bits.{bit_xor}
use Rattle.std.specs.Int.Count.{ones}
use Rattle.remainder.specs.Register.{run}
use Rattle.remainder.specs.Turned.{distance}
use Rattle.pec.specs.Pec.{byte_step}

-- The bits in which the lists differ, and those in which their two remainders do. The start state stands for the bytes before,
-- which are the same for both.
unfoldable pub apart_by : (start : ℕ) → List ℕ → List ℕ → ℕ
apart_by start xs ys = distance xs ys + ones (bit_xor (run byte_step start xs) (run byte_step start ys))

-- Up to this many bytes, two different lists, with their remainders, are at least three bits apart: the values and the check byte of 14
-- devices (2 * 14 + 1).
abbrev pub few_bytes : ℕ
few_bytes = 29
