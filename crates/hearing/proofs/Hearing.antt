-- Small laws of what a device hears.
use mathlib.Core.Path.{◌≡◌, refl, ap, ◌∙◌}
use mathlib.Core.Bool.{Bool, true, false, cond, ◌&&◌}
use mathlib.Core.List.{List}
use Prim.Native.Nat.{ℕ, ◌+◌, ◌*◌, ◌≤◌, ◌<◌}
use native.Mathlib.Omega.{arith}
use lib.Dec.{leb, eqb, lit≤, lit<}
use lib.ListN.{length}
use borrow.Author.Tests.{leb-true, ltb-true}
use Rattle.ground.proofs.Test.{and_left, and_right}
use Rattle.lines.specs.Line.{byte_at}
use Rattle.questions.specs.Question.{asking, alive_on, good_question}
use Rattle.questions.specs.Shape.{shape_at, shape_of}
use Rattle.questions.specs.declared.question.Question.{Question}
use Rattle.questions.proofs.ByKind.{each_kind}
use Rattle.questions.proofs.Good.{within_bounds}
use Rattle.hearing.specs.Hear.{is_place, kind_heard, carried, plainly, alive_told, heard}

pub carried_le : (kind k : ℕ) → carried kind k ≤ k
carried_le kind k = either (eqb kind 3)
  where
    either : (t : Bool) → cond t k 0 ≤ k
    either true = omega arith
    either false = omega arith

-- a question from its fields, with alive off
abbrev pub asked : (kind n reg low high device seed : ℕ) → Question
asked kind n reg low high device seed = asking kind n 0 reg (low + 256 * high) device seed

pub asked_same : (n device : ℕ) {q : Question} {kind kind' reg reg' low low' high high' seed seed' : ℕ}
    → q ≡ asked kind n reg low high device seed → kind ≡ kind' → reg ≡ reg' → low ≡ low' → high ≡ high'
    → seed ≡ seed' → q ≡ asked kind' n reg' low' high' device seed'
asked_same n device {q} {kind} {kind'} {reg} {reg'} {low} {low'} {high} {high'} {seed} {seed'} made k r l h s =
    made ∙ ap (λ (x : ℕ). asked x n reg low high device seed) k ∙ ap (λ (x : ℕ). asked kind' n x low high device seed) r
    ∙ ap (λ (x : ℕ). asked kind' n reg' x high device seed) l ∙ ap (λ (x : ℕ). asked kind' n reg' low' x device seed) h
    ∙ ap (λ (x : ℕ). asked kind' n reg' low' high' device x) s

either_le : (t : Bool) (a b most : ℕ) → a ≤ most → b ≤ most → cond t a b ≤ most
either_le true a b most h h' = h
either_le false a b most h h' = h'

kind_most : (k first : ℕ) → kind_heard k first ≤ 4
unfolding kind_heard
kind_most k first =
    either_le (eqb first 0x57) 0 _ 4 (lit≤ tt) (either_le (eqb first 0x02) 1 _ 4 (lit≤ tt)
    (either_le (eqb first (k * 8 + 4)) 2 _ 4 (lit≤ tt) (either_le (eqb first 0x03) 3 4 4 (lit≤ tt) (lit≤ tt))))

module _ (n k : ℕ) (line : List ℕ) where
  -- with alive off, or on
  pub heard_either : (P : Question → Type 0) → P (plainly n k line) → P (alive_on (plainly n k line)) → P (heard n k line)
  unfolding alive_told
  heard_either P off on = by_test (eqb (length line) (shape_of (plainly n k line)).words)
    where
      by_test : (t : Bool) → P (cond t (plainly n k line) (alive_on (plainly n k line)))
      by_test true = off
      by_test false = on

  -- what a device of the chain hears is a good question, to itself or to all
  pub heard_good : is_place n k ≡ true → good_question (heard n k line) ≡ true
  unfolding plainly
  heard_good place =
      let kind = kind_most k (byte_at line 0) in
      let least = leb-true 1 n (and_left _ _ (and_left _ _ place)) in
      let most = leb-true n 32 (and_right (leb 1 n) _ (and_left _ _ place)) in
      let below = ltb-true k n (and_right (leb 1 n && leb n 32) _ place) in
      heard_either (λ (q : Question). good_question q ≡ true) (within_bounds (plainly n k line) kind (lit≤ tt) least most below)
      (within_bounds (alive_on (plainly n k line)) kind (lit≤ tt) least most below)

  pub heard_n : (heard n k line).n ≡ n
  unfolding plainly
  heard_n = heard_either (λ (q : Question). q.n ≡ n) refl refl

-- a read has room for the values of the devices before, and one more
pub room_for_one : (q : Question) (k : ℕ) → q.kind ≤ 4 → k < q.n → 3 ≤ q.kind → carried q.kind k < (shape_of q).values
unfolding shape_of
room_for_one q k kind place =
    each_kind (λ (x : ℕ). 3 ≤ x → carried x k < (shape_at x q).values) (λ lo. absurd (omega arith)) (λ lo. absurd (omega arith)) (λ lo. absurd (omega arith))
    (λ lo. place) (λ lo. lit< tt) q.kind kind

-- a device of a chain: below n, and n at most 32
pub place_below : (n k : ℕ) → is_place n k ≡ true → (k < n) × (n ≤ 32)
place_below n k place = (ltb-true k n (and_right (leb 1 n && leb n 32) _ place), leb-true n 32 (and_right (leb 1 n) _ (and_left _ _ place)))
