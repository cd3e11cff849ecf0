-- `entry_at` meets its contract: of good entries there is one here.
use mathlib.Core.Path.{◌≡◌, ◌∙◌, sym, subst}
use Rattle.std.specs.Prelude.{Result, Ok, Option, Some, IsOk, IsSome}
use Rattle.std.proofs.Common.{rules}
use Rattle.jobs.specs.declared.EntryAt.{EntryAt}
use Rattle.jobs.specs.declared.Cursor.{Cursor}
use Rattle.jobs.specs.declared.NoJob.{NoJob}
use Rattle.jobs.proofs.Entries.{first_good}
use Rattle.jobs.proofs.Placed.{found}
use Rattle.rehearsal.proofs.here.entry_at.Goals as goal

is_ok : (r : Result (Option (EntryAt × Cursor)) NoJob) (x : EntryAt × Cursor) → r ≡ Ok (Some x) → IsOk r
is_ok r x is = subst (λ (s : Result (Option (EntryAt × Cursor)) NoJob). IsOk s) (sym is) (search rules)

is_some : (r : Result (Option (EntryAt × Cursor)) NoJob) (o : Option (EntryAt × Cursor)) (x : EntryAt × Cursor) → r ≡ Ok (Some x) → r ≡ Ok o → o ≡ Some x
is_some r o x is same = cc

some_some : (o : Option (EntryAt × Cursor)) → (x : EntryAt × Cursor) → o ≡ Some x → IsSome o
some_some o x is = subst (λ (s : Option (EntryAt × Cursor)). IsSome s) (sym is) (search rules)

the_one : (o : Option (EntryAt × Cursor)) → (x y : EntryAt × Cursor) → o ≡ Some x → o ≡ Some y → y ≡ x
the_one o x y is same = cc

pub unwrap-requires : goal.unwrap-requires
unwrap-requires c =
    let a = c.args in
    let is = c.next_entry-next.ensures ∙ found a.job.header a.job.file.now a.at (first_good a.job.header a.job.file.now a.at c.requires.0 c.requires.1) in
    is_ok _ _ is

pub unwrap-requires-2 : goal.unwrap-requires-2
unwrap-requires-2 c =
    let a = c.args in
    let is = c.next_entry-next.ensures ∙ found a.job.header a.job.file.now a.at (first_good a.job.header a.job.file.now a.at c.requires.0 c.requires.1) in
    some_some _ _ (is_some _ c.unwrap.result _ is c.unwrap.ensures)

pub returns : goal.returns
returns c =
    let a = c.args in
    let is = c.next_entry-next.ensures ∙ found a.job.header a.job.file.now a.at (first_good a.job.header a.job.file.now a.at c.requires.0 c.requires.1) in
    the_one _ _ c.unwrap-2.result (is_some _ c.unwrap.result _ is c.unwrap.ensures) c.unwrap-2.ensures
