-- The reason of the words that a buffer holds is the reason of the bytes: a line that is too long for the buffer is LENGTH either way. And the bounds
-- that keep the parts of a packed reason apart.
use mathlib.Core.Path.{◌≡◌, refl, ap, ◌∙◌}
use mathlib.Core.Bool.{Bool, true, false}
use mathlib.Core.Logic.{⊎_elim}
use mathlib.Core.List.{List, []}
use Prim.Native.Nat.{ℕ, zero, suc, ◌+◌, ◌*◌, ◌≤◌, ◌<◌}
use native.Mathlib.Omega.{arith}
use lib.Dec.{leb}
use lib.ListN.{length}
use borrow.Author.Tests.{ne_eqb}
use Rattle.std.specs.Prelude.{Option, Some, None}
use Rattle.packing.specs.Words.{line_on, line_in}
use Rattle.packing.proofs.Taken.{whole_or_none}
use Rattle.questions.specs.Question.{good_question}
use Rattle.questions.specs.Shape.{shape_at, shape_of}
use Rattle.questions.specs.declared.question.Question.{Question}
use Rattle.questions.proofs.Good.{words_most, words_least}
use Rattle.judging.specs.Judge.{screen_rows, rows_of, judge_of}
use Rattle.reasons.specs.Reason.{reason_of}
use Rattle.reasons.specs.declared.Spot.{Spot}
use Rattle.reasons.specs.declared.Spot.TheVariants.{Asked, Whole, Word, Byte}
use Rattle.c_reasons.specs.Explain.{in_bytes, reason_on, how_placed, is_one}

-- a line that no answer has the length of is told as no line at all
no_line_fits : (q : Question) (bytes : ℕ) (line : List ℕ) → 140 < length line → in_bytes q bytes (reason_of q []) ≡ in_bytes q bytes (reason_of q line)
unfolding reason_of judge_of rows_of screen_rows
no_line_fits q bytes line long = by_tests (good_question q) (leb (shape_of q).values 32) refl refl
  where
    by_tests : (t u : Bool) → good_question q ≡ t → leb (shape_of q).values 32 ≡ u → in_bytes q bytes (reason_of q []) ≡ in_bytes q bytes (reason_of q line)
    by_tests false u bad space = simp bad
    by_tests true false good short = simp (good, short)
    by_tests true true good enough =
        let other = ne_eqb (length line) (shape_of q).words (λ e. omega (arith, words_most q good)) in
        let none = ne_eqb 0 (shape_of q).words (λ e. omega (arith, words_least q good)) in
        simp (good, enough, other, none)

pub as_taken : (q : Question) (bytes : List ℕ) → in_bytes q (length bytes) (reason_of q (line_in 140 bytes)) ≡ reason_on q bytes
unfolding reason_on
as_taken q bytes =
    ⊎_elim
    (λ (whole : line_in 140 bytes ≡ line_on bytes). ap (λ (l : List ℕ). in_bytes q (length bytes) (reason_of q l)) whole)
    (λ (none : (line_in 140 bytes ≡ []) × (140 < length (line_on bytes))).
    ap (λ (l : List ℕ). in_bytes q (length bytes) (reason_of q l)) none.0 ∙ no_line_fits q (length bytes) (line_on bytes) none.1)
    (whole_or_none 140 bytes)

-- ---- bounds

pub words_le : (q : Question) → (shape_of q).words ≤ 14 + 4 * q.n + 2 * q.alive
unfolding shape_of
words_le q = at q.kind
  where
    at : (k : ℕ) → (shape_at k q).words ≤ 14 + 4 * q.n + 2 * q.alive
    at zero = omega arith
    at (suc zero) = omega arith
    at (suc (suc zero)) = omega arith
    at (suc (suc (suc zero))) = omega arith
    at (suc (suc (suc (suc k)))) = omega arith

pub how_most : (spot : Spot) → how_placed spot ≤ 4
how_most (Asked f) = omega arith
how_most Whole = omega arith
how_most (Word i) = omega arith
how_most (Byte i) = omega arith

pub one_most : (right : Option ℕ) → is_one right ≤ 1
one_most (Some x) = omega arith
one_most None = omega arith
