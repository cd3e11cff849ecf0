-- A command taken up or left alone: what the ways through the call leave.
use Rattle.std.proofs.Common.{◌≡◌, ℕ, ◌<◌, Bool, true, false, cond, ◌&&◌, leb, List, sym, ap, ◌∙◌, ap₂, arith, ltb-true}
use Rattle.ground.specs.Same.{same}
use Rattle.ground.proofs.Test.{and_left, and_right}
use Rattle.lines.specs.Line.{line_of}
use Rattle.writing.specs.PutLine.{out_of}
use Rattle.questions.specs.Question.{good_question}
use Rattle.questions.specs.Shape.{shape_of}
use Rattle.questions.proofs.Good.{good_values}
use Rattle.questions.specs.declared.question.Question.{Question}
use Rattle.underway.specs.TakeUp.{may_carry, possible, met_bytes, handed_bytes, is_met, TakenUp}

-- what the bounds are
pub record Bounds (q : Question) (k m : ℕ) : Type 0 where
  pub good : good_question q ≡ true
  pub values : m < 32
  pub place : k < 32

-- no command carries 32 values before a device that has yet to put its own in
few : (q : Question) (m : ℕ) → good_question q ≡ true → may_carry q m ≡ true → m < 32
few q m good carries = by_form (leb q.kind 2) (ltb-true m _ carries)
  where
    by_form : (t : Bool) → m < cond t 1 (shape_of q).values → m < 32
    by_form true h = omega arith
    by_form false h = omega (arith, good_values q good)

pub bounds : (q : Question) (k m : ℕ) → possible q k m ≡ true → Bounds q k m
bounds q k m e = record {
  good = and_left _ _ (and_left _ _ e);
  values = few q m (and_left _ _ (and_left _ _ e)) (and_right (good_question q) _ (and_left _ _ e));
  place = ltb-true k 32 (and_right (good_question q && may_carry q m) _ e);
}

module _ (q : Question) (k own m : ℕ) (line : List ℕ) where
  pub impossible : possible q k m ≡ false → is_met q k m line ≡ false
  unfolding is_met
  impossible e = ap (λ (t : Bool). t && same line (line_of (met_bytes q k m line))) e

  pub met_by : (t : Bool) → possible q k m ≡ true → same line (line_of (met_bytes q k m line)) ≡ t → is_met q k m line ≡ t
  unfolding is_met
  met_by t can is = ap₂ (λ (a b : Bool). a && b) can is

  pub left_alone : is_met q k m line ≡ false → TakenUp q k own m line line false
  left_alone e = record { says = sym e; leaves = sym (ap (λ (t : Bool). cond t (out_of (handed_bytes q k own m line) line) line) e) }

  pub taken_up : (after : List ℕ) → is_met q k m line ≡ true → after ≡ out_of (handed_bytes q k own m line) line → TakenUp q k own m line after true
  taken_up after e leaves = record { says = sym e; leaves = leaves ∙ sym (ap (λ (t : Bool). cond t (out_of (handed_bytes q k own m line) line) line) e) }
