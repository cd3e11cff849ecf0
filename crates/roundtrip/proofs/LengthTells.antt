-- The length of the line tells whether alive is on; and the seed is heard at the place where the alive byte of that kind stands.
use mathlib.Core.Path.{◌≡◌, refl, ap}
use mathlib.Core.Bool.{Bool, cond}
use mathlib.Core.List.{List}
use Prim.Native.Nat.{ℕ, ◌+◌, ◌*◌, ◌≤◌}
use lib.ListN.{length}
use borrow.Author.Tests.{eq-eqb, ne_eqb}
use Rattle.lines.specs.Line.{byte_at}
use Rattle.questions.specs.Question.{alive_on}
use Rattle.questions.specs.Shape.{shape_of}
use Rattle.questions.specs.declared.question.Question.{Question}
use Rattle.hearing.specs.Hear.{alive_place, plainly, alive_told, heard}
use Rattle.roundtrip.specs.Between.{For}
use Rattle.roundtrip.proofs.KindTells.{words_alike}

module _ (n k : ℕ) (line : List ℕ) where
  pub told_off : length line ≡ (shape_of (plainly n k line)).words → (heard n k line).alive ≡ 0
  unfolding alive_told plainly
  told_off e = ap (λ (t : Bool). (cond t (plainly n k line) (alive_on (plainly n k line))).alive) (eq-eqb (length line) (shape_of (plainly n k line)).words e)

  pub told_on : (length line ≡ (shape_of (plainly n k line)).words → ⊥) → (heard n k line).alive ≡ 1
  unfolding alive_told
  told_on differ = ap (λ (t : Bool). (cond t (plainly n k line) (alive_on (plainly n k line))).alive) (ne_eqb (length line) (shape_of (plainly n k line)).words differ)

  pub words_off : (q : Question) → For q n k → (plainly n k line).kind ≡ q.kind → 1 ≤ q.kind → (shape_of q).words ≡ (shape_of (plainly n k line)).words + 2 * q.alive
  unfolding plainly
  words_off q f kind some = words_alike q (plainly n k line) n k f kind refl refl some refl

  pub seed_place : (kind : ℕ) → (plainly n k line).kind ≡ kind → (plainly n k line).seed ≡ byte_at line (alive_place kind k)
  unfolding plainly
  seed_place kind e = ap (λ (x : ℕ). byte_at line (alive_place x k)) e
