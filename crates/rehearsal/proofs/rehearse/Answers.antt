-- `rehearse` meets its contract: FILE, FILE, ROOM, or the whole file anew.
use mathlib.Core.Path.{sym, ap, subst, ◌∙◌}
use mathlib.Core.List.{List}
use Prim.Native.Nat.{ℕ}
use native.Mathlib.Omega.{arith}
use lib.ListN.{length}
use lib.Seq.{sets}
use Rattle.std.proofs.Common.{Bor}
use Rattle.jobs.specs.Check.{good_file}
use Rattle.jobs.specs.Refusals.{of_no_job}
use Rattle.rehearsal.specs.Rehearsal.{rehearsal_of, RehearsalDone}
use Rattle.rehearsal.proofs.Rehearsing.{no_job_file, too_long, too_little_room, anew, ended_by}
use Rattle.rehearsal.proofs.rehearse.Goals as goal

pub returns-in_err-job : goal.returns-in_err-job
returns-in_err-job c =
    let file = c.args.file.now in
    let out = c.args.out.now in
    subst (RehearsalDone file out out) (sym (ended_by _ (of_no_job c.in_err-job.field-0.0) c.from_residual.ensures.1))
    (no_job_file file out c.in_err-job.ensures.1)

pub returns-then-bytes-gt65536 : goal.returns-then-bytes-gt65536
returns-then-bytes-gt65536 c =
    let a = c.args in
    let same = ap (λ (f : Bor (List ℕ)). f.now) c.in_ok-job.ensures.0 in
    let good = ap good_file (sym same) ∙ c.in_ok-job.job.good in
    let bytes = c.answered_length-bytes.ensures ∙ ap (λ (f : List ℕ). length (rehearsal_of f)) same in
    too_long a.file.now a.out.now good (omega (arith, bytes, c.if-bytes-gt65536.true))

pub returns-then-out-bytes : goal.returns-then-out-bytes
returns-then-out-bytes c =
    let a = c.args in
    let same = ap (λ (f : Bor (List ℕ)). f.now) c.in_ok-job.ensures.0 in
    let good = ap good_file (sym same) ∙ c.in_ok-job.job.good in
    let bytes = c.answered_length-bytes.ensures ∙ ap (λ (f : List ℕ). length (rehearsal_of f)) same in
    too_little_room a.file.now a.out.now good (omega (arith, bytes, c.if-bytes-gt65536.false)) (omega (arith, bytes, c.if-out-bytes.true))

pub answer_all-requires : goal.answer_all-requires
answer_all-requires c = omega (arith, c.answered_length-bytes.ensures, c.if-bytes-gt65536.false)

pub returns : goal.returns
returns c =
    let a = c.args in
    let same = ap (λ (f : Bor (List ℕ)). f.now) c.in_ok-job.ensures.0 in
    let good = ap good_file (sym same) ∙ c.in_ok-job.job.good in
    let bytes = c.answered_length-bytes.ensures ∙ ap (λ (f : List ℕ). length (rehearsal_of f)) same in
    let whole = c.answer_all.ensures ∙ ap (λ (f : List ℕ). sets a.out.now 0 (rehearsal_of f)) same in
    anew a.file.now a.out.now good _ c.answered_length-bytes.result bytes (omega (arith, bytes, c.if-bytes-gt65536.false)) (omega (arith, bytes, c.if-out-bytes.false)) whole
