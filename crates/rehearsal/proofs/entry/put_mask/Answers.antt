-- `put_mask` meets its contract: no mask, or its two bytes.
use mathlib.Core.Path.{ap, ◌∙◌}
use native.Mathlib.Omega.{arith}
use lib.Seq.{sets}
use Rattle.rehearsal.proofs.Fields.{no_mask, a_mask, le_bytes}
use Rattle.rehearsal.proofs.entry.put_mask.Goals as goal

pub returns-then-version-lt2 : goal.returns-then-version-lt2
returns-then-version-lt2 c = let a = c.args in no_mask a.version a.mask a.to a.out.now c.if-version-lt2.true

pub returns : goal.returns
returns c =
    let a = c.args in
    a_mask a.version a.mask a.to a.out.now _ c.if-version-lt2.false (c.store.ensures ∙ ap (sets a.out.now a.to) (le_bytes a.mask _ (omega arith) c.to_le_bytes.ensures))
