-- A certificate's bytes fit the 24 bits that they are packed into.
use mathlib.Core.Path.{◌≡◌, sym}
use mathlib.Core.List.{List}
use Prim.Native.Nat.{◌≤◌, ℕ}
use native.Mathlib.Omega.{arith}
use Rattle.certificate.specs.Certificate.{certified_of, most_text}
use Rattle.std.specs.Prelude.{Result, Ok, Err}
use Rattle.jobs.specs.declared.FileRefusal.{FileRefusal}
use Rattle.certificate.proofs.Longest.{written}
use Rattle.bmc.specs.Exports.{bytes_written}

pub few_bytes : (file text : List ℕ) (r : Result ℕ FileRefusal) → r ≡ certified_of file text → bytes_written r ≤ most_text
few_bytes file text (Ok n) says = (written file text n (sym says)).most
few_bytes file text (Err why) says = omega arith
