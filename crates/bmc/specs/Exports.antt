-- The C side's calls (document 01, "The C side"): the certificate's answer packed into one number.
use Rattle.std.specs.Prelude.{◌≡◌, List, ℕ, ◌+◌, ◌*◌, Result, Ok, Err}
use Rattle.certificate.specs.Certificate.{certified_of, certified_number, text_left}
use Rattle.jobs.specs.declared.FileRefusal.{FileRefusal}

abbrev pub bytes_written : Result ℕ FileRefusal → ℕ
bytes_written (Ok n) = n
bytes_written (Err why) = 0

-- bits 0 to 7 the number, bits 8 to 31 how many bytes were written
abbrev pub packed_certified : Result ℕ FileRefusal → ℕ
packed_certified c = certified_number c + 256 * bytes_written c

-- what `bmc_certificate` says and leaves
pub record CertificateBytesDone (file before after : List ℕ) (r : ℕ) : Type 0 where
  pub says : r ≡ packed_certified (certified_of file before)
  pub leaves : after ≡ text_left file before
