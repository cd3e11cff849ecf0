-- `lay` meets its contract: form by form.
use Rattle.std.proofs.Common.{◌≡◌, ℕ, ◌-◌, ◌*◌, ◌/◌, ◌%◌, ◌≤◌, List, [], ◌∷◌, ◌++◌, length, drop, sym, ap, ◌∙◌, ap₂, ⊎_elim, arith}
use Rattle.questions.specs.Shape.{shape_of}
use Rattle.questions.specs.Bytes.{low_high, sealed, fill_pairs}
use Rattle.questions.proofs.ByKind.{asked_number}
use Rattle.underway.specs.OnTheWay.{on_the_way}
use Rattle.underway.proofs.Way.{way_hello, way_write, way_read, pairs_left_lem}
use Rattle.underway.proofs.command.lay.Goals as goal

-- the values have two bytes each
whole : (n size : ℕ) → size % 2 ≡ 0 → fill_pairs (n - size / 2) ≡ drop size (fill_pairs n)
whole n size even =
    let twice : 2 * (size / 2) ≡ size = omega arith in
    sym (pairs_left_lem n (size / 2)) ∙ ap (λ (k : ℕ). drop k (fill_pairs n)) twice

pub returns-in-HelloAll : goal.returns-in-HelloAll
returns-in-HelloAll c =
    let a = c.args in
    let kind : a.q.kind ≡ 0 = asked_number _ c.asks.ensures c.in-HelloAll.is in
    c.lay_hello.ensures ∙ ap (λ s. s.first ∷ 0 ∷ a.count ∷ []) c.shape_of-shape.ensures ∙ sym (way_hello a.q a.count a.added a.wire kind)

pub returns-in-WriteAll : goal.returns-in-WriteAll
returns-in-WriteAll c =
    let a = c.args in
    let least : 1 ≤ a.q.kind =
    ⊎_elim (λ e. let is : a.q.kind ≡ 1 = asked_number _ c.asks.ensures e in omega arith) (λ e. let is : a.q.kind ≡ 2 = asked_number _ c.asks.ensures e in omega arith) c.in-WriteAll.is in
    let most : a.q.kind ≤ 2 =
    ⊎_elim (λ e. let is : a.q.kind ≡ 1 = asked_number _ c.asks.ensures e in omega arith) (λ e. let is : a.q.kind ≡ 2 = asked_number _ c.asks.ensures e in omega arith) c.in-WriteAll.is in
    c.lay_write.ensures ∙ ap (λ s. sealed a.q a.added (s.first ∷ a.q.reg ∷ low_high a.q.value)) c.shape_of-shape.ensures ∙ sym (way_write a.q a.count a.added a.wire least most)

pub returns-in-ReadAll : goal.returns-in-ReadAll
returns-in-ReadAll c =
    let a = c.args in
    let least : 3 ≤ a.q.kind =
    ⊎_elim (λ e. let is : a.q.kind ≡ 3 = asked_number _ c.asks.ensures e in omega arith) (λ e. let is : 4 ≤ a.q.kind = asked_number _ c.asks.ensures e in omega arith) c.in-ReadAll.is in
    let wire = c.wire.inside.bytes.now in
    let pairs = c.saturating_sub-pairs.ensures ∙ ap (λ s. s.values - length wire / 2) c.shape_of-shape.ensures in
    c.lay_read.ensures
    ∙ ap₂ (λ s (p : ℕ). sealed a.q a.added (s.first ∷ a.q.reg ∷ (wire ++ (0 ∷ []))) ++ fill_pairs p) c.shape_of-shape.ensures pairs
    ∙ ap (λ (l : List ℕ). sealed a.q a.added ((shape_of a.q).first ∷ a.q.reg ∷ (wire ++ (0 ∷ []))) ++ l) (whole (shape_of a.q).values (length wire) c.wire.invariant.1)
    ∙ sym (way_read a.q a.count a.added wire least) ∙ ap (on_the_way a.q a.count a.added) c.wire.view_is
