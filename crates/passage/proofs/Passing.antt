-- One device's step: what its two ways through leave.
use Rattle.std.specs.Prelude.{Option, None}
use mathlib.Core.Path.{◌≡◌, sym, ap, ap₂, ◌∙◌}
use mathlib.Core.Bool.{Bool, true, false, cond, ◌&&◌}
use mathlib.Core.Logic.{⊎_elim}
use mathlib.Core.List.{List, ◌++◌, append-nil}
use Prim.Native.Nat.{ℕ, ◌≤◌, ◌<◌}
use native.Mathlib.Omega.{arith}
use lib.Dec.{ltb}
use lib.ListN.{length, get_or, drop_of_length-le}
use borrow.Author.Tests.{ne_eqb, le-leb, lt-leb, lt-ltb}
use Rattle.ground.proofs.Test.{below_or_not}
use Rattle.ground.specs.Same.{same}
use Rattle.lines.specs.Line.{line_of}
use Rattle.writing.specs.PutLine.{out_of}
use Rattle.writing.proofs.Stored.{put_whole}
use Rattle.questions.specs.Question.{good_question}
use Rattle.questions.specs.Shape.{shape_of}
use Rattle.questions.proofs.Good.{good_kind}
use Rattle.questions.specs.declared.question.Question.{Question}
use Rattle.hearing.specs.Hear.{is_place, carried, heard}
use Rattle.hearing.proofs.Hearing.{heard_good, heard_n, room_for_one, place_below}
use Rattle.underway.specs.TakeUp.{may_carry, possible, met_bytes, handed_bytes, is_met}
use Rattle.passage.specs.Acting.{before, met, acts, handed, handed_on}
use Rattle.passage.specs.Pass.{change_asked, change_of, Passed}
use Rattle.passage.specs.declared.pass.Store.{Store}
use Rattle.passage.proofs.EqualLength.{handed_size}

-- a line put over one of its own length
put_over : (bytes line : List ℕ) → length (line_of bytes) ≡ length line → out_of bytes line ≡ line_of bytes
put_over bytes line size =
    let none : length line ≤ length (line_of bytes) = omega arith in
    put_whole bytes line (omega arith) ∙ ap (λ (rest : List ℕ). line_of bytes ++ rest) (drop_of_length-le line none) ∙ append-nil (line_of bytes)

module _ (n k : ℕ) (registers line : List ℕ) where
  -- a line that the device does not act on passes unchanged, and no register changes
  pub left_unchanged : acts n k line ≡ false → handed_on n k line registers ≡ line
  unfolding handed_on
  left_unchanged e = ap (λ (t : Bool). cond t (handed n k line (get_or registers (heard n k line).reg 0)) line) e

  pub nothing_stored : acts n k line ≡ false → change_of n k line ≡ None
  unfolding change_of
  nothing_stored e = ap (λ (t : Bool). cond t (change_asked (heard n k line)) None) e

  pub not_acting : (after : List ℕ) → acts n k line ≡ false → after ≡ line → Passed n k registers line after None
  not_acting after e unchanged = record { says = sym (nothing_stored e); leaves = unchanged ∙ sym (left_unchanged e) }

  pub no_place : is_place n k ≡ false → acts n k line ≡ false
  unfolding acts
  no_place e = ap (λ (t : Bool). t && same line (met n k line)) e

  -- there is room for the value of the device
  may_carry_lem : (q : Question) → q ≡ heard n k line → (m : ℕ) → m ≡ carried q.kind k → is_place n k ≡ true → may_carry q m ≡ true
  may_carry_lem q is m values place =
      let good : good_question q ≡ true = ap good_question is ∙ heard_good n k line place in
      let count : q.n ≡ n = ap (λ (x : Question). x.n) is ∙ heard_n n k line in
      ⊎_elim
      (λ (low : q.kind < 3).
      let few : q.kind ≤ 2 = omega arith in
      let none : m ≡ 0 = values ∙ ap (λ (t : Bool). cond t k 0) (ne_eqb q.kind 3 (λ e. absurd (omega arith))) in
      ap₂ (λ (x : ℕ) (t : Bool). ltb x (cond t 1 (shape_of q).values)) none (le-leb q.kind 2 few))
      (λ (reads : 3 ≤ q.kind).
      let room = room_for_one q k (good_kind q good) (omega (arith, count, (place_below n k place).0)) reads in
      ap (λ (t : Bool). ltb m (cond t 1 (shape_of q).values)) (lt-leb q.kind 2 reads) ∙ lt-ltb m (shape_of q).values (omega (arith, values)))
      (below_or_not q.kind 3)

  -- what a device of the chain hears is a possible command
  pub is_possible : (q : Question) → q ≡ heard n k line → (m : ℕ) → m ≡ carried q.kind k → is_place n k ≡ true → possible q k m ≡ true
  is_possible q is m values place =
      let below = place_below n k place in
      let here : k < 32 = omega (arith, below.0, below.1) in
      ap₂ (λ (a b : Bool). a && b) (ap₂ (λ (a b : Bool). a && b) (ap good_question is ∙ heard_good n k line place) (may_carry_lem q is m values place)) (lt-ltb k 32 here)

  -- the test that the device makes
  module _ (q : Question) (is : q ≡ heard n k line) (m : ℕ) (values : m ≡ carried q.kind k) (place : is_place n k ≡ true) (can : possible q k m ≡ true) where
    pub acts_by : is_met q k m line ≡ acts n k line
    unfolding is_met acts met
    acts_by =
        ap (λ (t : Bool). t && same line (line_of (met_bytes q k m line))) can ∙ ap (λ (x : ℕ). same line (line_of (met_bytes q k x line))) values
        ∙ ap (λ (x : Question). same line (line_of (met_bytes x k (carried x.kind k) line))) is
        ∙ sym (ap (λ (t : Bool). t && same line (met n k line)) place)

    pub passed_by : (own : ℕ) (after : List ℕ) (r : Option Store) → own ≡ get_or registers q.reg 0 → acts n k line ≡ true
        → after ≡ out_of (handed_bytes q k own m line) line → r ≡ change_asked q → Passed n k registers line after r
    unfolding handed_on handed change_of
    passed_by own after r holds e leaves says =
        let mine = get_or registers (heard n k line).reg 0 in
        record {
          says = says ∙ ap change_asked is ∙ sym (ap (λ (t : Bool). cond t (change_asked (heard n k line)) None) e);
          leaves =
              leaves ∙ ap₂ (λ (v x : ℕ). out_of (handed_bytes q k v x line) line) holds values
              ∙ ap (λ (x : Question). out_of (handed_bytes x k (get_or registers x.reg 0) (carried x.kind k) line) line) is
              ∙ put_over (handed_bytes (heard n k line) k mine (before n k line) line) line (handed_size n k line e mine)
              ∙ sym (ap (λ (t : Bool). cond t (handed n k line mine) line) e);
        }
