-- A line that a device acts on is as long as a command: 140 words at most.
use mathlib.Core.Path.{◌≡◌, ap, ◌∙◌}
use mathlib.Core.Bool.{true, false}
use mathlib.Core.List.{List}
use Prim.Native.Nat.{ℕ, ◌+◌, ◌*◌, ◌≤◌, ◌<◌}
use native.Mathlib.Omega.{arith}
use lib.ListN.{length}
use Rattle.ground.proofs.Sweep.{length_tabulated}
use Rattle.ground.proofs.Test.{refuted}
use Rattle.lines.specs.Line.{byte_at}
use Rattle.lines.proofs.Line.{length_line}
use Rattle.questions.proofs.Good.{good_kind}
use Rattle.hearing.specs.Hear.{carried, heard}
use Rattle.hearing.proofs.Hearing.{heard_good, heard_n, room_for_one, place_below}
use Rattle.underway.specs.OnTheWay.{wire_of}
use Rattle.underway.specs.TakeUp.{met_bytes}
use Rattle.underway.proofs.Way.{way_most}
use Rattle.passage.specs.Acting.{met, acts}
use Rattle.passage.proofs.EqualLength.{acts_place, acts_met}

module _ (n k : ℕ) (line : List ℕ) where
  acted_length : acts n k line ≡ true → length line ≤ 140
  unfolding met
  acted_length e =
      let q = heard n k line in
      let m = carried q.kind k in
      let place = acts_place n k line e in
      let good = heard_good n k line place in
      let room = room_for_one q k (good_kind q good) (omega (arith, heard_n n k line, (place_below n k place).0)) in
      let size : length line ≡ 2 * length (met_bytes q k m line) + 2 = ap length (acts_met n k line e) ∙ length_line (met_bytes q k m line) in
      let most = way_most q good k 0 m (wire_of line m) (length_tabulated (byte_at line) (2 * m) 2) (λ reads. omega (arith, room reads)) in
      omega arith

  -- so no device acts on a longer one
  pub long_unacted : 140 < length line → acts n k line ≡ false
  long_unacted long = refuted (acts n k line) (λ e. omega (arith, acted_length e))
