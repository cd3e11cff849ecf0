-- THE MEMORY FOR A CERTIFICATE. The constant of the source is the number of the definition, and every certificate of a job file fits memory of that size.
use mathlib.Core.Path.{◌≡◌, refl}
use mathlib.Core.Bool.{true}
use mathlib.Core.List.{List}
use Prim.Native.Nat.{ℕ, ◌≤◌}
use lib.ListN.{length}
use Rattle.jobs.specs.Check.{good_file}
use Rattle.certificate.specs.declared.TheConstants.{MOST_TEXT}
use Rattle.certificate.specs.Certificate.{most_text, certificate_of}
use Rattle.certificate.proofs.Longest.{fits_every_certificate}

pub memory_is_most_text : MOST_TEXT ≡ most_text
memory_is_most_text = refl

pub memory_holds_every_certificate : (file : List ℕ) → good_file file ≡ true → length (certificate_of file) ≤ MOST_TEXT
memory_holds_every_certificate = fits_every_certificate
