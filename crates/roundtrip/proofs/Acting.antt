-- A device acts on the line between when the command is put to it, with the values of the devices before, and then hands on the next line between.
use mathlib.Core.Path.{◌≡◌, ap, ◌∙◌}
use mathlib.Core.Logic.{⊎_elim}
use mathlib.Core.List.{List, [], ◌++◌}
use Prim.Native.Nat.{ℕ, suc, ◌+◌, ◌*◌, ◌≤◌, ◌<◌}
use native.Mathlib.Nat.{add-zero}
use native.Mathlib.Omega.{arith}
use lib.ListN.{length, get_or}
use Rattle.ground.proofs.Test.{below_or_not}
use Rattle.remainder.specs.Turned.{Bytes}
use Rattle.lines.specs.Line.{line_of}
use Rattle.questions.specs.Bytes.{low_high}
use Rattle.questions.specs.declared.question.Question.{Question}
use Rattle.acceptance.specs.Answer.{Sendable}
use Rattle.hearing.specs.Hear.{carried, heard}
use Rattle.underway.specs.OnTheWay.{on_the_way, wire_of}
use Rattle.passage.specs.Acting.{met, handed}
use Rattle.roundtrip.specs.Between.{For}
use Rattle.roundtrip.proofs.Alike.{Alike, way_alike}
use Rattle.roundtrip.proofs.HeardBack.{heard_alike, wire_heard}
use Rattle.roundtrip.proofs.WhereItActs.{write_alone, place_of, change_alike, Acts, acts_with}

module _ (q : Question) (n k : ℕ) (f : For q n k) (sends : Sendable q) (added : ℕ) (wire : List ℕ) (small : Bytes wire) (m : ℕ) (size : length wire ≡ 2 * m)
    (some : 1 ≤ q.kind) (put : m ≡ carried q.kind k) (registers : List ℕ) where
  here : List ℕ
  here = line_of (on_the_way q k added wire)

  alike : Alike q (heard n k here) added
  unfolding here
  alike = heard_alike q n k f sends added wire small m size some put

  heard_wire : List ℕ
  heard_wire = wire_of here (carried (heard n k here).kind k)

  -- what is heard, as it stands and with the own value put in
  heard_way : (count more : ℕ) (front : List ℕ) → on_the_way (heard n k here) count more (front ++ heard_wire) ≡ on_the_way q count (added + more) (front ++ wire)
  unfolding here heard_wire
  heard_way count more front =
      way_alike q (heard n k here) added alike some count more (front ++ heard_wire) ∙ ⊎_elim
      (λ (low : q.kind < 3). write_alone q count (added + more) (front ++ heard_wire) (front ++ wire) some (omega arith))
      (λ (reads : 3 ≤ q.kind). ap (λ (w : List ℕ). on_the_way q count (added + more) (front ++ w)) (wire_heard q n k f sends added wire small m size some put reads))
      (below_or_not q.kind 3)

  is_met : met n k here ≡ here
  unfolding met here heard_wire
  is_met = ap line_of (heard_way k 0 [] ∙ ap (λ (x : ℕ). on_the_way q k x wire) (add-zero added))

  hands_on : handed n k here (get_or registers (heard n k here).reg 0) ≡ line_of (on_the_way q (suc k) (added + 1) (low_high (get_or registers q.reg 0) ++ wire))
  unfolding handed here heard_wire
  hands_on =
      ap (λ (r : ℕ). handed n k here (get_or registers r 0)) alike.reg ∙ ap line_of (heard_way (suc k) 1 (low_high (get_or registers q.reg 0)))

  -- the device acts, and hands on the command with its own value
  pub acts_on : Acts n k (line_of (on_the_way q k added wire)) (line_of (on_the_way q (suc k) (added + 1) (low_high (get_or registers q.reg 0) ++ wire))) q registers
  unfolding here
  acts_on = acts_with n k here _ q registers (place_of q n k f) is_met hands_on (change_alike q (heard n k here) added alike)
