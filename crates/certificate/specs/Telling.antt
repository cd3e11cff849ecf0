-- The entries told one after the other.
use Rattle.std.specs.Prelude.{◌≡◌, List, ℕ, ◌+◌, ◌≤◌, length, take, drop, set, Result, Ok, Err}
use Rattle.jobs.specs.declared.Header.{Header}
use Rattle.jobs.specs.Check.{size_in}
use Rattle.listening.specs.Listening.{number_for, heard_here, listened_to}
use Rattle.jobs.specs.declared.FileRefusal.{FileRefusal}
use Rattle.printing.specs.declared.PrintRefusal.{PrintRefusal}
use Rattle.printing.specs.Print.{of_print_refusal}
use Rattle.certificate.specs.declared.Told.{Told}
use Rattle.certificate.specs.Certificate.{numbers_of, heard_in, standing_of}

-- one entry more
pub record ToldOne (h : Header) (file : List ℕ) (told : Told) (before after : List ℕ) (r : Told) : Type 0 where
  pub at : r.at ≡ told.at + size_in h.version (drop told.at file)
  pub entries : r.entries ≡ told.entries + 1
  pub standing : r.standing ≡ (listened_to told.standing (heard_here h (drop told.at file)) (size_in h.version (drop told.at file))).standing
  pub numbers : after ≡ set before told.entries (number_for (heard_here h (drop told.at file)))

-- all entries
pub record ToldAll (file after : List ℕ) (r : Told) : Type 0 where
  pub numbers : take r.entries after ≡ numbers_of (heard_in file)
  pub standing : r.standing ≡ standing_of file
  pub few : r.entries ≤ length after

-- printed, said as the certificate's answer
abbrev pub certified_as : Result ℕ PrintRefusal → Result ℕ FileRefusal
certified_as (Ok n) = Ok n
certified_as (Err why) = Err (of_print_refusal why)
