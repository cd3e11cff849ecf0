-- `put_fields` meets its contract: those up to the value, the mask, and the others, one behind the other.
use mathlib.Core.Path.{ap, ◌∙◌}
use mathlib.Core.List.{List, [], ◌∷◌}
use Prim.Native.Nat.{ℕ}
use native.Mathlib.Omega.{arith}
use lib.ListN.{get_or}
use lib.Seq.{sets}
use Rattle.rehearsal.proofs.Fields.{fields_laid, le_bytes}
use Rattle.rehearsal.proofs.entry.put_fields.Goals as goal

pub returns : goal.returns
returns c =
    let a = c.args in
    let value = le_bytes a.q.value _ (omega arith) c.to_le_bytes.ensures in
    let count = le_bytes a.words _ (omega arith) c.to_le_bytes-2.ensures in
    fields_laid a.version a.mask a.words a.to c.put_mask-behind.result a.q a.out.now _ _ _
    (c.store.ensures ∙ ap (λ (bytes : List ℕ). sets a.out.now a.to (a.q.kind ∷ a.q.reg ∷ get_or bytes 0 0 ∷ get_or bytes 1 0 ∷ [])) value) c.put_mask-behind.ensures
    (c.store-2.ensures ∙ ap (λ (bytes : List ℕ). sets c.put_mask-behind.new.out c.put_mask-behind.result (a.q.device ∷ a.q.seed ∷ get_or bytes 0 0 ∷ get_or bytes 1 0 ∷ [])) count)
