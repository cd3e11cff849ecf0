-- Why a job file, an entry of one, or a call that answers a job file with bytes is turned away, and document 01's numbers of that.
use Rattle.std.specs.Prelude.{ℕ}
use Rattle.jobs.specs.declared.NoJob.{NoJob}
use Rattle.jobs.specs.declared.FileRefusal.{FileRefusal}
use Rattle.jobs.specs.declared.FileRefusal.TheVariants as refusal

abbrev pub not_job : NoJob
not_job = record {}

-- FILE
abbrev pub no_job_number : NoJob → ℕ
no_job_number why = 14

-- FILE or ROOM
abbrev pub file_number : FileRefusal → ℕ
file_number refusal.File = 14
file_number refusal.Room = 2

-- what is no job file is turned away as such
abbrev pub of_no_job : NoJob → FileRefusal
of_no_job why = refusal.File
