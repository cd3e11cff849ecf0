-- `put_all` meets its contract: the loop keeps the bytes so far laid from the first place on.
use mathlib.Core.Path.{ap, sym, ◌∙◌}
use Prim.Native.Nat.{ℕ}
use native.Mathlib.Numerals.{add-one}
use lib.ListN.{take}
use lib.Seq.{take-suc}
use Rattle.printing.proofs.Laying.{laid_more}
use Rattle.printing.proofs.figures.Sheet.put_all.Goals as goal

pub loop-byte-preserved : goal.loop-byte-preserved
loop-byte-preserved c =
    let now = c.loop-byte in
    let bytes = c.args.bytes.now in
    let one_more = ap (λ (k : ℕ). take k bytes) (add-one now.byte-index) ∙ take-suc bytes now.byte-index 0 c.loop-byte-test.true in
    laid_more (sym one_more) now.invariant c.put.ensures
