-- `seal` meets its contract: the PEC of what stands in front, and with alive on one byte more.
use Rattle.std.proofs.Common.{ℕ, ◌+◌, ◌%◌, List, [], ◌∷◌, ◌++◌, sym, ap, ◌∙◌, append_assoc}
use Rattle.pec.specs.Pec.{pec_of}
use Rattle.questions.specs.Bytes.{sealed}
use Rattle.questions.proofs.Bytes.{alive_present, alive_absent}
use Rattle.underway.proofs.laid.Laid.seal.Goals as goal

pub returns-then-q-eq1 : goal.returns-then-q-eq1
unfolding sealed
returns-then-q-eq1 c =
    let a = c.args in
    let covered = a.self.now in
    let check = c.push.ensures ∙ ap (λ (x : ℕ). covered ++ (x ∷ [])) (c.pec-check.ensures ∙ ap pec_of c.as_slice.ensures) in
    let alive = (a.q.seed + a.added) % 256 in
    c.push-then-q-eq1.ensures ∙ ap (λ (l : List ℕ). l ++ (alive ∷ [])) check ∙ append_assoc covered (pec_of covered ∷ []) (alive ∷ [])
    ∙ ap (λ (l : List ℕ). covered ++ (pec_of covered ∷ l)) (sym (alive_present a.q a.added c.if-q-eq1.true))

pub returns-else-q-eq1 : goal.returns-else-q-eq1
unfolding sealed
returns-else-q-eq1 c =
    let a = c.args in
    let covered = a.self.now in
    c.push.ensures ∙ ap (λ (x : ℕ). covered ++ (x ∷ [])) (c.pec-check.ensures ∙ ap pec_of c.as_slice.ensures)
    ∙ ap (λ (l : List ℕ). covered ++ (pec_of covered ∷ l)) (sym (alive_absent a.q a.added c.if-q-eq1.false))
