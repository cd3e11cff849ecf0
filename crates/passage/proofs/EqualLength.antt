-- A device hands on a line of equal length.
use mathlib.Core.Path.{◌≡◌, refl, sym, ap, ◌∙◌}
use mathlib.Core.Bool.{Bool, true, false, cond}
use mathlib.Core.List.{List}
use Prim.Native.Nat.{ℕ, suc, ◌+◌, ◌*◌}
use native.Mathlib.Omega.{arith}
use lib.ListN.{length, get_or}
use Rattle.ground.proofs.Same.{same_true}
use Rattle.ground.proofs.Sweep.{length_tabulated}
use Rattle.ground.proofs.Test.{and_left, and_right}
use Rattle.lines.specs.Line.{byte_at}
use Rattle.lines.proofs.Line.{length_line}
use Rattle.questions.proofs.Good.{good_kind}
use Rattle.hearing.specs.Hear.{is_place, carried, heard}
use Rattle.hearing.proofs.Hearing.{heard_good, heard_n, room_for_one, place_below}
use Rattle.underway.specs.OnTheWay.{wire_of}
use Rattle.underway.specs.TakeUp.{met_bytes, handed_bytes}
use Rattle.underway.proofs.Way.{equal_length}
use Rattle.passage.specs.Acting.{met, acts, handed, handed_on}

module _ (n k : ℕ) (line : List ℕ) where
  -- what acting says: the device is one of the chain, and the line is what it should be
  pub acts_place : acts n k line ≡ true → is_place n k ≡ true
  unfolding acts
  acts_place e = and_left (is_place n k) _ e

  pub acts_met : acts n k line ≡ true → line ≡ met n k line
  unfolding acts
  acts_met e = same_true line (met n k line) (and_right (is_place n k) _ e)

  pub handed_size : acts n k line ≡ true → (own : ℕ) → length (handed n k line own) ≡ length line
  unfolding handed met
  handed_size e own =
      let q = heard n k line in
      let m = carried q.kind k in
      let place = acts_place e in
      let room = room_for_one q k (good_kind q (heard_good n k line place)) (omega (arith, heard_n n k line, (place_below n k place).0)) in
      length_line (handed_bytes q k own m line)
      ∙ ap (λ (x : ℕ). 2 * x + 2) (equal_length q k (suc k) 0 1 own m (wire_of line m) (length_tabulated (byte_at line) (2 * m) 2) room)
      ∙ sym (ap length (acts_met e) ∙ length_line (met_bytes q k m line))

  pub length_handed : (registers : List ℕ) → length (handed_on n k line registers) ≡ length line
  unfolding handed_on
  length_handed registers = by_test (acts n k line) refl
    where
      by_test : (t : Bool) → acts n k line ≡ t → length (cond t (handed n k line (get_or registers (heard n k line).reg 0)) line) ≡ length line
      by_test true e = handed_size e (get_or registers (heard n k line).reg 0)
      by_test false e = refl
