-- `certify` meets its contract: what is no job file is turned away, and a job file's certificate is printed.
use mathlib.Core.Path.{sym, subst}
use mathlib.Core.List.{List}
use Prim.Native.Nat.{ℕ}
use Rattle.std.proofs.Common.{Bor}
use Rattle.std.specs.Prelude.{Ok, Err}
use Rattle.jobs.specs.Refusals.{of_no_job}
use Rattle.printing.specs.Print.{of_print_refusal}
use Rattle.certificate.specs.Certificate.{CertificateDone}
use Rattle.certificate.proofs.Certifying.{certified, ended_by, turned_away}
use Rattle.certificate.proofs.certify.Goals as goal

pub returns-in_err-job : goal.returns-in_err-job
returns-in_err-job c =
    let file = c.args.file.now in
    let text = c.args.text.now in
    subst (CertificateDone file text text) (sym (ended_by _ (of_no_job c.in_err-job.field-0.0) c.from_residual.ensures.1))
    (turned_away file text c.in_err-job.ensures.1)

pub returns-in_err-bytes : goal.returns-in_err-bytes
returns-in_err-bytes c =
    let text = c.args.text.now in
    let after = c.print_told.new.text in
    let job = c.in_ok-job.job in
    let why = c.in_err-bytes.field-0.0 in
    subst (CertificateDone c.args.file.now text after) (sym (ended_by _ (of_print_refusal why) c.from_residual-in_err-bytes.ensures.1))
    (subst (λ (file : Bor (List ℕ)). CertificateDone file.now text after (Err (of_print_refusal why))) c.in_ok-job.ensures.0
    (certified job.header job.file.now text after (Err why) job.good job.stands c.in_err-bytes.ensures))

pub returns : goal.returns
returns c =
    let text = c.args.text.now in
    let after = c.print_told.new.text in
    let job = c.in_ok-job.job in
    subst (λ (file : Bor (List ℕ)). CertificateDone file.now text after (Ok c.in_ok-bytes.bytes)) c.in_ok-job.ensures.0
    (certified job.header job.file.now text after (Ok c.in_ok-bytes.bytes) job.good job.stands c.in_ok-bytes.ensures)
