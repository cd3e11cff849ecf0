-- A line that a device acts on begins with that device's own command byte: a command for another device passes.
use mathlib.Core.Path.{◌≡◌, refl, sym, ap, ◌∙◌}
use mathlib.Core.Bool.{Bool, true, false}
use mathlib.Core.Logic.{◌⊎◌, ⊎_elim}
use mathlib.Core.List.{List, [], ◌∷◌}
use Prim.Native.Nat.{ℕ, ◌+◌, ◌*◌, ◌≤◌, ◌<◌}
use native.Mathlib.Nat.{eq-zero-or-pos}
use native.Mathlib.Omega.{arith}
use lib.Dec.{lit<}
use lib.ListN.{length, get_or-eq_default}
use borrow.Author.Tests.{ne_eqb}
use Rattle.ground.proofs.Sweep.{tabulated_at, length_tabulated}
use Rattle.ground.proofs.Test.{below_or_not}
use Rattle.remainder.specs.Turned.{Bytes}
use Rattle.lines.specs.Line.{line_of, byte_at}
use Rattle.lines.proofs.Line.{byte_of_line, byte_lt}
use Rattle.questions.specs.Question.{alive_on}
use Rattle.questions.specs.Shape.{shape_at, shape_of}
use Rattle.questions.specs.declared.question.Question.{Question}
use Rattle.questions.proofs.Good.{good_kind, hello_shape}
use Rattle.acceptance.specs.Answer.{Sendable}
use Rattle.hearing.specs.Hear.{kind_heard, carried, plainly, heard}
use Rattle.underway.specs.OnTheWay.{on_the_way, wire_of}
use Rattle.passage.specs.Acting.{acts}
use Rattle.hearing.proofs.Hearing.{heard_either, heard_good, heard_n, room_for_one, place_below}
use Rattle.passage.proofs.EqualLength.{acts_place, acts_met}
use Rattle.roundtrip.proofs.BytesBetween.{first_byte}
use Rattle.roundtrip.proofs.HelloActing.{met_is, hello_bytes, hello_way}

module _ (n k : ℕ) (line : List ℕ) where
  pub heard_sends : Sendable (heard n k line)
  unfolding plainly
  heard_sends =
      let value : byte_at line 2 + 256 * byte_at line 3 < 65536 = omega (arith, byte_lt line 2, byte_lt line 3) in
      heard_either n k line Sendable (record { reg = byte_lt line 1; value = value }) (record { reg = byte_lt line 1; value = value })

  pub wire_small : (m : ℕ) → Bytes (wire_of line m)
  wire_small m i =
      ⊎_elim (λ (h : i < 2 * m). omega (arith, tabulated_at (byte_at line) (2 * m) 2 i h, byte_lt line (2 + i)))
      (λ h. let past : length (wire_of line m) ≤ i = omega (arith, length_tabulated (byte_at line) (2 * m) 2) in omega (arith, get_or-eq_default (wire_of line m) 0 past))
      (below_or_not i (2 * m))

  pub acts_first : acts n k line ≡ true → byte_at line 0 ≡ (shape_of (heard n k line)).first
  acts_first e =
      let q = heard n k line in
      let place = acts_place n k line e in
      let good = heard_good n k line place in
      let m = carried q.kind k in
      ap (λ (l : List ℕ). byte_at l 0) (met_line e) ∙ ⊎_elim
      (λ (hello : q.kind ≡ 0).
      ap (λ (l : List ℕ). byte_at (line_of l) 0) (hello_way q k 0 (wire_of line m) hello)
      ∙ byte_of_line (0x57 ∷ 0 ∷ k ∷ []) (hello_bytes k (omega (arith, (place_below n k place).0, (place_below n k place).1))) 0 (lit< tt) ∙ sym (ap (λ s. s.first) (hello_shape q hello)))
      (λ (some : 1 ≤ q.kind).
      first_byte q good heard_sends k 0 (wire_of line m) (wire_small m) m (length_tabulated (byte_at line) (2 * m) 2) some
      (λ reads. let less = room_for_one q k (good_kind q good) (omega (arith, heard_n n k line, (place_below n k place).0)) reads in omega arith))
      (eq-zero-or-pos q.kind)
    where
      met_line : acts n k line ≡ true → line ≡ line_of (on_the_way (heard n k line) k 0 (wire_of line (carried (heard n k line).kind k)))
      met_line e = acts_met n k line e ∙ met_is n k line

-- ---- a command for another device passes

four_is_another : (k d : ℕ) → (d ≡ k → ⊥) → kind_heard k (d * 8 + 4) ≡ 4
unfolding kind_heard
four_is_another k d differ =
    simp (ne_eqb (d * 8 + 4) 0x57 (λ x. absurd (omega arith)), ne_eqb (d * 8 + 4) 0x02 (λ x. absurd (omega arith)), ne_eqb (d * 8 + 4) (k * 8 + 4) (λ x. differ (omega arith)), ne_eqb (d * 8 + 4) 0x03 (λ x. absurd (omega arith)))

five_is_a_read : (k d : ℕ) → kind_heard k (d * 8 + 5) ≡ 4
unfolding kind_heard
five_is_a_read k d =
    simp (ne_eqb (d * 8 + 5) 0x57 (λ x. absurd (omega arith)), ne_eqb (d * 8 + 5) 0x02 (λ x. absurd (omega arith)), ne_eqb (d * 8 + 5) (k * 8 + 4) (λ x. absurd (omega arith)), ne_eqb (d * 8 + 5) 0x03 (λ x. absurd (omega arith)))

own_read : (n k : ℕ) (line : List ℕ) → kind_heard k (byte_at line 0) ≡ 4 → (shape_of (heard n k line)).first ≡ k * 8 + 5
unfolding plainly shape_of
own_read n k line kind =
    heard_either n k line (λ (x : Question). (shape_of x).first ≡ k * 8 + 5)
    (ap (λ (x : ℕ). (shape_at x (plainly n k line)).first) kind) (ap (λ (x : ℕ). (shape_at x (alive_on (plainly n k line))).first) kind)

pub for_another : (n k d : ℕ) (line : List ℕ) → (byte_at line 0 ≡ d * 8 + 4) ⊎ (byte_at line 0 ≡ d * 8 + 5) → (d ≡ k → ⊥) → acts n k line ≡ false
for_another n k d line either differ = by_test (acts n k line) refl
  where
    clash_four : byte_at line 0 ≡ k * 8 + 5 → byte_at line 0 ≡ d * 8 + 4 → ⊥
    clash_four e e' = omega arith

    clash_five : byte_at line 0 ≡ k * 8 + 5 → byte_at line 0 ≡ d * 8 + 5 → ⊥
    clash_five e e' = differ (omega arith)

    by_test : (t : Bool) → acts n k line ≡ t → acts n k line ≡ false
    by_test false e = e
    by_test true e =
        let kind = ⊎_elim (λ (x : byte_at line 0 ≡ d * 8 + 4). ap (kind_heard k) x ∙ four_is_another k d differ) (λ x. ap (kind_heard k) x ∙ five_is_a_read k d) either in
        let first = acts_first n k line e ∙ own_read n k line kind in
        absurd (⊎_elim (λ x. clash_four first x) (λ x. clash_five first x) either)
