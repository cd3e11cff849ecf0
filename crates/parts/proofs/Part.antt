-- Where a device's register stands on an accepted line: inside it, so that the second call can hand out that part.
use mathlib.Core.Path.{◌≡◌, refl, sym, ap, ◌∙◌}
use mathlib.Core.Bool.{Bool, true, false, cond, ◌&&◌}
use mathlib.Core.Logic.{⊎_elim}
use mathlib.Core.List.{List, []}
use Prim.Native.Nat.{ℕ, suc, ◌+◌, ◌-◌, ◌*◌, ◌≤◌, ◌<◌}
use native.Mathlib.Nat.{eq-zero-or-pos}
use native.Mathlib.Omega.{arith}
use lib.Dec.{ltb, eqb, lit<}
use lib.ListN.{length, take, drop, length-drop}
use borrow.Author.Tests.{ltb-true, le-ltb, lt-ltb}
use Rattle.questions.specs.Question.{covers_at, covers, good_question}
use Rattle.questions.specs.Shape.{shape_at, shape_of}
use Rattle.questions.specs.declared.question.Question.{Question}
use Rattle.questions.proofs.ByKind.{each_kind}
use Rattle.questions.proofs.Good.{good_kind, good_values, read_shape}
use Rattle.lines.specs.Line.{bytes_of}
use Rattle.lines.proofs.Line.{length_bytes}
use Rattle.judging.proofs.Accepted.{some_values, values_carried}
use Rattle.reader.specs.Read.{values_on}
use Rattle.reader.proofs.Values.{values_number}
use Rattle.std.specs.Prelude.{Some, None}
use Rattle.std.proofs.lemmas.Option.{cond_some}
use Rattle.parts.specs.Part.{order_of, values_found, has_part, above, start_of, part_of, place_found}

order_below : (q : Question) (a : ℕ) → good_question q ≡ true → 3 ≤ q.kind → covers q a ≡ true → order_of q a < (shape_of q).values
unfolding covers order_of shape_of
order_below q a good =
    each_kind (λ (k : ℕ). 3 ≤ k → covers_at k q a ≡ true → cond (eqb k 3) a 0 < (shape_at k q).values)
    (λ lo e. absurd (omega arith)) (λ lo e. absurd (omega arith)) (λ lo e. absurd (omega arith))
    (λ lo e. ltb-true a q.n e) (λ lo e. lit< tt) q.kind (good_kind q good)

and_false : (t : Bool) → (t && false) ≡ false
and_false true = refl
and_false false = refl

-- ---- no part: no values, or a device that the question is not put to

module _ (q : Question) (line : List ℕ) (a : ℕ) where
  none_found : values_found q line ≡ 0 → has_part q line a ≡ false
  none_found e = ap (λ (t : Bool). t && covers q a) (le-ltb 0 (values_found q line) (omega arith))

  none_put_to : covers q a ≡ false → has_part q line a ≡ false
  none_put_to e = ap (λ (t : Bool). ltb 0 (values_found q line) && t) e ∙ and_false (ltb 0 (values_found q line))

  without_start : has_part q line a ≡ false → 0 ≡ start_of q line a
  unfolding start_of
  without_start e = sym (ap (λ (t : Bool). cond t (5 + 4 * above q line a) 0) e)

  without_part : has_part q line a ≡ false → [] ≡ part_of q line a
  unfolding part_of
  without_part e = sym (ap (λ (t : Bool). cond t (take 4 (drop (start_of q line a) line)) []) e)

  pub no_start : values_found q line ≡ 0 → 0 ≡ start_of q line a
  no_start e = without_start (none_found e)

  pub start_not_put_to : covers q a ≡ false → 0 ≡ start_of q line a
  start_not_put_to e = without_start (none_put_to e)

  without_place : has_part q line a ≡ false → None ≡ place_found q line a
  without_place e = sym (ap (λ (t : Bool). cond t (Some (start_of q line a)) None) e)

  pub no_place : values_found q line ≡ 0 → None ≡ place_found q line a
  no_place e = without_place (none_found e)

  pub place_not_put_to : covers q a ≡ false → None ≡ place_found q line a
  place_not_put_to e = without_place (none_put_to e)

  pub no_part : values_found q line ≡ 0 → [] ≡ part_of q line a
  no_part e = without_part (none_found e)

  pub not_put_to : covers q a ≡ false → [] ≡ part_of q line a
  not_put_to e = without_part (none_put_to e)

-- ---- a part, and its place

module _ (q : Question) (line : List ℕ) (a : ℕ) (some : 0 < values_found q line) (put_to : covers q a ≡ true) where
  has_part_lem : has_part q line a ≡ true
  has_part_lem = ap (λ (t : Bool). t && covers q a) (lt-ltb 0 (values_found q line) some) ∙ put_to

  -- as many bytes as the values need
  pub found_carried : 2 * values_found q line + 2 ≤ length (bytes_of line)
  found_carried = omega (arith, values_carried q line (shape_of q).values, length_bytes line)

  -- a device that the question is put to has its place among the values, and its four characters on the line
  pub record Inside : Type 0 where
    pub few : values_found q line ≤ 32
    pub order : order_of q a < values_found q line
    pub start : start_of q line a ≡ 5 + 4 * (values_found q line - 1 - order_of q a)
    pub within : start_of q line a + 4 ≤ length line

  pub inside : Inside
  unfolding start_of
  inside =
      let c = some_values q line (shape_of q).values some in
      let few = good_values q c.taken.good in
      let order = order_below q a c.taken.good c.read put_to in
      let values = values_on line (values_found q line) in
      let number = values_number (bytes_of line) (values_found q line) found_carried in
      let start : start_of q line a ≡ 5 + 4 * (values_found q line - 1 - order_of q a) =
      ap (λ (t : Bool). cond t (5 + 4 * above q line a) 0) has_part_lem ∙ omega (arith, length-drop (suc (order_of q a)) values, number) in
      record {
        few = omega (arith, c.values, few);
        order = omega (arith, c.values, order);
        start = start;
        within = omega (arith, start, c.values, order, c.taken.words, (read_shape q c.read).words);
      }

  pub place_there : Some (start_of q line a) ≡ place_found q line a
  place_there = sym (ap (λ (t : Bool). cond t (Some (start_of q line a)) None) has_part_lem)

  pub part_there : take 4 (drop (start_of q line a) line) ≡ part_of q line a
  unfolding part_of
  part_there = sym (ap (λ (t : Bool). cond t (take 4 (drop (start_of q line a) line)) []) has_part_lem)

module _ (q : Question) (line : List ℕ) (a : ℕ) where
  -- a place is given only where values are carried and the device is put to
  pub starts : 0 < start_of q line a → (0 < values_found q line) × (covers q a ≡ true)
  starts h =
      ⊎_elim (λ none. absurd (omega (arith, no_start q line a none))) (λ some. (some, by_test (covers q a) refl))
      (eq-zero-or-pos (values_found q line))
    where
      by_test : (t : Bool) → covers q a ≡ t → covers q a ≡ true
      by_test true e = e
      by_test false e = absurd (omega (arith, start_not_put_to q line a e))

  -- where it is 0 there is no part
  pub no_start_no_part : start_of q line a ≡ 0 → [] ≡ part_of q line a
  no_start_no_part e =
      ⊎_elim (λ none. no_part q line a none) (λ some. by_test some (covers q a) refl) (eq-zero-or-pos (values_found q line))
    where
      by_test : 0 < values_found q line → (t : Bool) → covers q a ≡ t → [] ≡ part_of q line a
      by_test some true put_to = absurd (omega (arith, (inside q line a some put_to).start))
      by_test some false out = not_put_to q line a out

  -- where it is not, the part stands there, inside the line
  pub record PartAt : Type 0 where
    pub part : take 4 (drop (start_of q line a) line) ≡ part_of q line a
    pub within : start_of q line a + 4 ≤ length line
    pub near : start_of q line a ≤ 129

  pub part_at : 0 < start_of q line a → PartAt
  part_at h =
      let put = starts h in
      let at = inside q line a put.0 put.1 in
      record { part = part_there q line a put.0 put.1; within = at.within; near = omega (arith, at.start, at.few) }

  start_some : has_part q line a ≡ true → start_of q line a ≡ 5 + 4 * above q line a
  unfolding start_of
  start_some e = ap (λ (t : Bool). cond t (5 + 4 * above q line a) 0) e

  -- a place that is found is that one, and no preamble's
  pub record PlaceAt (start : ℕ) : Type 0 where
    pub is : start ≡ start_of q line a
    pub some : 0 < start_of q line a

  pub place_at : (start : ℕ) → place_found q line a ≡ Some start → PlaceAt start
  place_at start e =
      let test = cond_some (has_part q line a) (start_of q line a) start e in
      record { is = sym test.1; some = omega (arith, start_some test.0) }

  -- where none is found, the part is empty
  pub place_none : place_found q line a ≡ None → [] ≡ part_of q line a
  place_none e = by_test (has_part q line a) refl
    where
      by_test : (t : Bool) → has_part q line a ≡ t → [] ≡ part_of q line a
      by_test true is = absurd (let both : Some (start_of q line a) ≡ None = sym (ap (λ (t : Bool). cond t (Some (start_of q line a)) None) is) ∙ e in let z : ◌≡◌ {A = ℕ} 0 1 = cc in omega arith)
      by_test false is = without_part q line a is

  pub no_start_no_place : start_of q line a ≡ 0 → place_found q line a ≡ None
  no_start_no_place e = by_test (has_part q line a) refl
    where
      by_test : (t : Bool) → has_part q line a ≡ t → place_found q line a ≡ None
      by_test true is = absurd (omega (arith, start_some is))
      by_test false is = sym (without_place q line a is)
