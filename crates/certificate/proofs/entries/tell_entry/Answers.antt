-- `tell_entry` meets its contract: of good entries there is one here, and it is heard.
use mathlib.Core.Path.{refl, ap, ◌∙◌}
use mathlib.Core.List.{List}
use Prim.Native.Nat.{ℕ, ◌+◌}
use native.Mathlib.Omega.{arith}
use lib.ListN.{drop, set}
use Rattle.ground.proofs.Lists.{part_to_end}
use Rattle.jobs.proofs.Entries.{first_good}
use Rattle.jobs.proofs.Placed.{entry_within}
use Rattle.listening.specs.declared.Listened.{Listened}
use Rattle.listening.specs.Listening.{listen_of}
use Rattle.listening.proofs.Listening.{good_heard}
use Rattle.certificate.proofs.entries.tell_entry.Goals as goal

pub overflow_add-result : goal.overflow_add-result
overflow_add-result c =
    let a = c.args in
    let file = a.job.file.now in
    let at = a.told.at in
    let is = first_good a.job.header file at c.requires.0 c.requires.1 in
    let heard = c.listen-heard.ensures ∙ ap (λ (l : List ℕ). listen_of a.job.header l a.told.standing) (part_to_end file at) ∙ good_heard a.job.header (drop at file) a.told.standing is in
    omega (arith, ap (λ (x : Listened). x.size) heard, entry_within a.job.header file at is)

pub returns : goal.returns
returns c =
    let a = c.args in
    let file = a.job.file.now in
    let at = a.told.at in
    let is = first_good a.job.header file at c.requires.0 c.requires.1 in
    let heard = c.listen-heard.ensures ∙ ap (λ (l : List ℕ). listen_of a.job.header l a.told.standing) (part_to_end file at) ∙ good_heard a.job.header (drop at file) a.told.standing is in
    record {
      at = ap (λ (x : Listened). at + x.size) heard;
      entries = refl;
      standing = ap (λ (x : Listened). x.standing) heard;
      numbers = ap (λ (x : Listened). set a.numbers.now a.told.entries x.number) heard;
    }
