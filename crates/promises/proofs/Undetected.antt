-- Damage that is not found: the answer's line with it is another answer's, which is accepted. How many bits that takes does not depend on the
-- values: it is computed from the masks, for every device count.
use mathlib.Core.Path.{◌≡◌, sym, ap, ◌∙◌, subst}
use mathlib.Core.Bool.{Bool, true, ◌||◌}
use mathlib.Core.Logic.{⊎_elim}
use mathlib.Core.List.{List}
use Prim.Native.Nat.{ℕ, ◌+◌, ◌*◌, ◌≤◌, ◌<◌}
use native.Mathlib.Omega.{arith}
use lib.Count.{ones}
use lib.Dec.{eqb, ltb}
use borrow.Author.Tests.{eqb-true, ltb-true}
use Rattle.ground.specs.Sweep.{every}
use Rattle.ground.proofs.Test.{or_cases}
use Rattle.ground.proofs.Sweep.{swept}
use Rattle.remainder.specs.Register.{run}
use Rattle.remainder.specs.Turned.{weight, distance}
use Rattle.remainder.proofs.Turned.{distance_turned, distance_self}
use Rattle.pec.specs.Pec.{byte_step}
use Rattle.questions.specs.declared.question.Question.{Question}
use Rattle.questions.proofs.Good.{good_alive, good_count}
use Rattle.reader.specs.Read.{ReadDone}
use Rattle.promises.specs.Demand3.{ReadsAll, answer_line}
use Rattle.promises.specs.WhereItEnds.{damage, Undetected}
use Rattle.promises.proofs.Apart.{varied, asks_all, start, lines_apart}
use Rattle.promises.proofs.Demand3.{all_values, demand_3}
use Rattle.promises.proofs.MasksOnWire.{by_masks}
use Rattle.promises.proofs.TurnedAnswer.{in_device, masks_for, mask, others, same, others_read, line_is_turned, masks_on_line, damage_is}

-- with `least` devices or more, the masks turn over `apart` bits of values and PEC: one test for every device count
unfoldable pub ends : (device bits least apart : ℕ) → ℕ → Bool
ends device bits least apart n =
    ltb n least || eqb (weight (varied (in_device n device bits)) + ones (run byte_step 0 (varied (in_device n device bits)))) apart

end_at : (device bits least apart n : ℕ) → every (ends device bits least apart) 33 ≡ true → least ≤ n → n ≤ 32
    → weight (varied (in_device n device bits)) + ones (run byte_step 0 (varied (in_device n device bits))) ≡ apart
unfolding ends
end_at device bits least apart n all lo hi =
    ⊎_elim (λ e. absurd (omega (arith, ltb-true n least e))) (λ e. eqb-true _ apart e)
    (or_cases (ltb n least) _ (swept (ends device bits least apart) 33 all n (omega arith)))

module _ (q : Question) (values : List ℕ) (all : ReadsAll q values) (device bits : ℕ) (small : bits < 65536) where
  pub not_found : (least apart : ℕ) → 1 ≤ apart → every (ends device bits least apart) 33 ≡ true → least ≤ q.n
      → Undetected q values (damage q.n q.alive device bits) (2 * apart)
  unfolding others mask
  not_found least apart pos computed lo =
      let line = answer_line q values in
      let values' = others q values all device bits small in
      let read' = others_read q values all device bits small in
      let long = masks_on_line q values all device bits small in
      let is = line_is_turned q values all device bits small in
      let most = (good_count q all.good (omega arith)).1 in
      let apart_by = lines_apart q (asks_all q values all) values values' (all_values q values all) (all_values q values' read')
      ∙ ap (λ (d : ℕ). 2 * d)
      (by_masks (start q (asks_all q values all)) values (mask q values all device bits small) (same q values all device bits small)
      ∙ end_at device bits least apart q.n computed lo most) in
      subst (λ (masks : List ℕ). Undetected q values masks (2 * apart))
      (sym (damage_is q.n q.alive device bits (good_count q all.good (omega arith)).0 most (good_alive q all.good) small)) record {
        every = long;
        turns = sym (distance_turned line (masks_for q.n q.alive device bits) long) ∙ ap (distance line) is ∙ apart_by;
        others = values';
        differ = λ e. omega (arith, apart_by, ap (λ (v : List ℕ). distance line (answer_line q v)) (sym e), distance_self line);
        accepted = λ before after r room done. demand_3.undamaged q values' read' before after r (omega (arith, room, read'.number))
            (subst (λ (l : List ℕ). ReadDone q l before after r) is done);
      }
