-- `packed_certified` meets its contract: the bytes of a certificate stand above the lowest eight bits.
use mathlib.Core.Path.{◌≡◌, ap, subst}
use Prim.Native.Nat.{ℕ, ◌≤◌}
use native.Mathlib.Omega.{arith}
use Rattle.std.specs.Prelude.{Result}
use Rattle.jobs.specs.declared.FileRefusal.{FileRefusal}
use Rattle.certificate.specs.Certificate.{most_text}
use Rattle.bmc.specs.Exports.{bytes_written, packed_certified}
use Rattle.bmc.proofs.packed_certified.Goals as goal

pub overflow_cast-result : goal.overflow_cast-result
overflow_cast-result c = omega (arith, subst (λ (x : Result ℕ FileRefusal). bytes_written x ≤ most_text) c.in-Ok.is c.requires)

pub overflow_mul-result : goal.overflow_mul-result
overflow_mul-result c = omega (arith, subst (λ (x : Result ℕ FileRefusal). bytes_written x ≤ most_text) c.in-Ok.is c.requires)
