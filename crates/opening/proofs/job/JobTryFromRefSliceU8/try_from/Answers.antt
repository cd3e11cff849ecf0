-- `try_from` meets its contract: what `open` says of the file is what a job's ghost fields say.
use mathlib.Core.Path.{◌≡◌, sym, ◌∙◌}
use mathlib.Core.List.{List}
use Rattle.std.specs.Prelude.{Result, Err}
use Rattle.std.proofs.Common.{rules, false, ℕ, arith}
use Rattle.jobs.specs.declared.Header.{Header}
use Rattle.jobs.specs.declared.NoJob.{NoJob}
use Rattle.jobs.specs.Check.{good_file, opened_of}
use Rattle.jobs.proofs.Placed.{no_job}
use Rattle.jobs.proofs.Entries.{a_job}
use Rattle.opening.proofs.job.JobTryFromRefSliceU8.try_from.Goals as goal

refused : (file : List ℕ) (r : Result Header NoJob) (why : NoJob) → r ≡ opened_of file → r ≡ Err why → good_file file ≡ false
refused file r why says is = no_job file r says (λ h one. let z : ◌≡◌ {A = ℕ} 0 1 = cc in absurd (omega arith))

pub returns-in_err-header : goal.returns-in_err-header
returns-in_err-header c =
    let bad = refused c.args.file.now c.open.result c.in_err-header.field-0.0 c.open.ensures c.in_err-header.was in
    search (rules, bad, c.from_residual.ensures.0)

pub invariant_of-result : goal.invariant_of-result
invariant_of-result c =
    let is = a_job c.in_ok-header.header c.args.file.now (sym c.open.ensures ∙ c.in_ok-header.was) in
    record { good = is.good; stands = is.header }
