-- `count_entry` meets its contract: of good entries there is one here, and its answer is counted.
use mathlib.Core.Path.{ap, ap₂, ◌∙◌}
use Prim.Native.Nat.{ℕ, ◌+◌, ◌*◌}
use native.Mathlib.Omega.{arith}
use Rattle.jobs.specs.declared.EntryAt.{EntryAt}
use Rattle.jobs.specs.declared.Cursor.{Cursor}
use Rattle.jobs.proofs.Sizes.{field_bounds}
use Rattle.rehearsal.specs.Rehearsal.{answer_words}
use Rattle.rehearsal.proofs.Sending.{few_words}
use Rattle.rehearsal.proofs.count.count_entry.Goals as goal

pub overflow_add-result : goal.overflow_add-result
overflow_add-result c = omega (arith, c.field_size.ensures, (field_bounds c.args.job.header.version).1, c.requires.0, c.requires.2, c.requires.3)

pub returns : goal.returns
returns c =
    let a = c.args in
    let is = c.entry_at.ensures in
    let words = c.answer_words.ensures ∙ ap (λ (x : EntryAt × Cursor). answer_words x.0.question) is in
    ap₂ (λ (at to : ℕ). record { at = at; to = to }) (ap (λ (x : EntryAt × Cursor). x.1.at) is) (ap₂ (λ (k n : ℕ). a.places.to + k + 2 * n) c.field_size.ensures words)

pub overflow_mul-result : goal.overflow_mul-result
overflow_mul-result c = omega (arith, c.answer_words.ensures, few_words c.entry_at.result.0.question)

pub overflow_add-result-2 : goal.overflow_add-result-2
overflow_add-result-2 c =
    omega (
      arith,
      c.answer_words.ensures,
      c.field_size.ensures,
      (field_bounds c.args.job.header.version).1,
      few_words c.entry_at.result.0.question,
      c.requires.0,
      c.requires.2,
      c.requires.3,
    )
