-- `listen` meets its contract: an entry is taken out only where a good one stands, and it is heard.
use mathlib.Core.Path.{◌≡◌, ap, ◌∙◌}
use native.Mathlib.Omega.{arith}
use Rattle.std.specs.Prelude.{Option, Some, Ok}
use Rattle.std.proofs.Common.{rules}
use Rattle.jobs.specs.declared.EntryAt.{EntryAt}
use Rattle.jobs.specs.declared.Cursor.{Cursor}
use Rattle.listening.proofs.listen.Goals.{in_default-via-in-Ok+in_default, in_default-via-in_default}
use Rattle.jobs.proofs.Placed.{entry_stands, placed, entry_words, entry_within}
use Rattle.listening.proofs.Listening.{nothing_there, heard_there}
use Rattle.listening.proofs.listen.Goals as goal

pub hear_entry-requires : goal.hear_entry-requires
hear_entry-requires c =
    let a = c.args in
    let front = a.front.now in
    let e = c.in-Ok-Some.entry in
    let cursor = c.in-Ok-Some.field-0-0-1 in
    let says = c.next_entry-next.ensures in
    let one : c.in-Ok-Some.field-0 ≡ Some (e, cursor) = search rules in
    let next : c.next_entry-next.result ≡ Ok (Some (e, cursor)) = c.in-Ok-Some.is ∙ ap (λ (o : Option (EntryAt × Cursor)). Ok o) one in
    let is = entry_stands a.header front 0 c.next_entry-next.result e cursor says next in
    let there = placed a.header front 0 is c.next_entry-next.result e cursor says next in
    let words = ap (λ (x : EntryAt). x.words) there.entry in
    let start = ap (λ (x : EntryAt). x.start) there.entry in
    (omega (arith, words, entry_words a.header front 0 is), omega (arith, words, start, entry_within a.header front 0 is))

pub returns : goal.returns
returns c =
    let a = c.args in
    let front = a.front.now in
    let e = c.in-Ok-Some.entry in
    let cursor = c.in-Ok-Some.field-0-0-1 in
    let says = c.next_entry-next.ensures in
    let one : c.in-Ok-Some.field-0 ≡ Some (e, cursor) = search rules in
    let next : c.next_entry-next.result ≡ Ok (Some (e, cursor)) = c.in-Ok-Some.is ∙ ap (λ (o : Option (EntryAt × Cursor)). Ok o) one in
    let is = entry_stands a.header front 0 c.next_entry-next.result e cursor says next in
    let there = placed a.header front 0 is c.next_entry-next.result e cursor says next in
    c.hear_entry.ensures ∙ heard_there a.header front a.standing is e cursor there

pub returns-in_default : goal.returns-in_default
returns-in_default c =
    let a = c.args in
    let none : (e : EntryAt) (after : Cursor) → c.next_entry-next.result ≡ Ok (Some (e, after)) → ⊥ =
    elim c.in_default.branch as (λ b. (e : EntryAt) (after : Cursor) → c.next_entry-next.result ≡ Ok (Some (e, after)) → ⊥) [
      | in_default-via-in-Ok+in_default w ↦ search rules
      | in_default-via-in_default w ↦ search rules
    ] in
    c.hear_nothing.ensures ∙ nothing_there a.header a.front.now a.standing c.next_entry-next.result c.next_entry-next.ensures none
