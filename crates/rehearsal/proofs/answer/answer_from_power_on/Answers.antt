-- `answer_from_power_on` meets its contract: the header, and behind it the entries answered by a chain just switched on.
use mathlib.Core.Path.{ap, ◌∙◌}
use mathlib.Core.List.{List, [], ◌∷◌}
use Prim.Native.Nat.{ℕ}
use native.Mathlib.Omega.{arith}
use lib.ListN.{get_or}
use lib.Seq.{sets}
use Rattle.rehearsal.proofs.Fields.{le_bytes}
use Rattle.rehearsal.proofs.FromPowerOn.{ready, all_written}
use Rattle.rehearsal.proofs.answer.answer_from_power_on.Goals as goal

pub answer_entries-requires : goal.answer_entries-requires
answer_entries-requires c =
    let a = c.args in
    ready a.job.header a.job.file.now a.memory.now _ a.out.now _ a.out.now c.power_on.result a.job.good a.job.stands c.requires.0 c.requires.1 c.power_on.ensures c.power_on.auto.memory

pub returns : goal.returns
returns c =
    let a = c.args in
    let version = le_bytes a.job.header.version _ (omega arith) c.to_le_bytes.ensures in
    all_written a.job.header a.job.file.now a.memory.now _ a.out.now _ _ c.power_on.result a.job.good a.job.stands c.requires.0 c.requires.1 c.power_on.ensures (c.store.ensures ∙ ap (λ (bytes : List ℕ). sets a.out.now 0 (0x42 ∷ 0x4D ∷ 0x43 ∷ get_or bytes 0 0 ∷ get_or bytes 1 0 ∷ a.job.header.n ∷ a.job.header.alive ∷ [])) version) c.answer_entries.ensures
