-- `write_head` meets its contract: the check is the PEC of the four bytes before it, and the alive byte is counted where it is on.
use mathlib.Core.Path.{◌≡◌, ap, ap₂, ◌∙◌}
use mathlib.Core.List.{List, [], ◌∷◌}
use Prim.Native.Nat.{ℕ, ◌%◌}
use native.Mathlib.Omega.{arith}
use lib.ListN.{get_or}
use Rattle.pec.specs.Pec.{pec_of}
use Rattle.pec.proofs.Byte.{four_steps}
use Rattle.questions.specs.Bytes.{low_high}
use Rattle.heads.specs.Head.{with_alive}
use Rattle.heads.proofs.write_head.Goals as goal

pub returns : goal.returns
returns c =
    let a = c.args in
    let two = c.to_le_bytes.result in
    let value : two ≡ low_high a.q.value = c.to_le_bytes.ensures ∙ ap (λ (high : ℕ). a.q.value % 256 ∷ high ∷ []) (omega arith) in
    ap₂ (λ (check count : ℕ). record { bytes = a.first ∷ a.q.reg ∷ get_or two 0 0 ∷ get_or two 1 0 ∷ check ∷ a.q.seed ∷ []; count = count })
    (four_steps a.first a.q.reg (get_or two 0 0) (get_or two 1 0) c.step.ensures c.step-2.ensures
    c.step-3.ensures c.step-check.ensures)
    c.with_alive.ensures
    ∙ ap (λ (l : List ℕ). record {
      bytes = a.first ∷ a.q.reg ∷ get_or l 0 0 ∷ get_or l 1 0 ∷ pec_of (a.first ∷ a.q.reg ∷ get_or l 0 0 ∷ get_or l 1 0 ∷ []) ∷ a.q.seed ∷ [];
      count = with_alive a.q 5;
    }) value
