-- Two questions that a line cannot tell apart have the same bytes on their way.
use mathlib.Core.Path.{◌≡◌, refl, sym, ap, ap₂, ◌∙◌}
use mathlib.Core.Bool.{Bool, true, false, cond}
use mathlib.Core.Logic.{⊎_elim}
use mathlib.Core.List.{List, [], ◌∷◌, ◌++◌}
use Prim.Native.Nat.{ℕ, ◌+◌, ◌%◌, ◌≤◌, ◌<◌}
use native.Mathlib.Omega.{arith}
use lib.Dec.{eqb}
use lib.ListN.{length, drop}
use borrow.Author.Tests.{eqb-true}
use Rattle.ground.proofs.Test.{below_or_not}
use Rattle.pec.specs.Pec.{pec_of}
use Rattle.questions.specs.Shape.{shape_of}
use Rattle.questions.specs.Bytes.{low_high, alive_byte, sealed, fill_pairs, write_covered}
use Rattle.questions.specs.declared.question.Question.{Question}
use Rattle.underway.specs.OnTheWay.{on_the_way}
use Rattle.underway.proofs.Way.{read_on_way, way_write, way_read}

-- q' is q as it is heard when `added` has been added to its alive byte
pub record Alike (q q' : Question) (added : ℕ) : Type 0 where
  pub kind : q'.kind ≡ q.kind
  pub first : (shape_of q').first ≡ (shape_of q).first
  pub values : (shape_of q').values ≡ (shape_of q).values
  pub reg : q'.reg ≡ q.reg
  pub value : q.kind ≤ 2 → q'.value ≡ q.value
  pub alive : q'.alive ≡ q.alive
  pub seed : q.alive ≡ 1 → q'.seed ≡ (q.seed + added) % 256

module _ (q q' : Question) (added : ℕ) (a : Alike q q' added) where
  alive_alike : (more : ℕ) → alive_byte q' more ≡ alive_byte q (added + more)
  alive_alike more =
      ap (λ (x : ℕ). cond (eqb x 1) ((q'.seed + more) % 256 ∷ []) []) a.alive ∙ by_test (eqb q.alive 1) refl
    where
      wraps : (s : ℕ) → s ≡ (q.seed + added) % 256 → (s + more) % 256 ≡ (q.seed + (added + more)) % 256
      wraps s e = omega (arith, e)

      by_test : (t : Bool) → eqb q.alive 1 ≡ t
          → cond (eqb q.alive 1) ((q'.seed + more) % 256 ∷ []) [] ≡ cond (eqb q.alive 1) ((q.seed + (added + more)) % 256 ∷ []) []
      by_test true e =
          ap (λ (x : ℕ). cond (eqb q.alive 1) (x ∷ []) []) (wraps q'.seed (a.seed (eqb-true q.alive 1 e)))
      by_test false e =
          ap (λ (t : Bool). cond t ((q'.seed + more) % 256 ∷ []) []) e ∙ sym (ap (λ (t : Bool). cond t ((q.seed + (added + more)) % 256 ∷ []) []) e)

  sealed_alike : (more : ℕ) (covered covered' : List ℕ) → covered' ≡ covered → sealed q' more covered' ≡ sealed q (added + more) covered
  unfolding sealed
  sealed_alike more covered covered' same =
      ap₂ (λ (x y : List ℕ). x ++ (pec_of x ∷ y)) same (alive_alike more)

  pub way_alike : 1 ≤ q.kind → (count more : ℕ) (wire : List ℕ) → on_the_way q' count more wire ≡ on_the_way q count (added + more) wire
  way_alike some count more wire =
      ⊎_elim
      (λ (low : q.kind < 3).
      let write : write_covered q' ≡ write_covered q =
      ap₂ (λ (x y : ℕ). x ∷ y ∷ low_high q'.value) a.first a.reg ∙ ap (λ (v : ℕ). (shape_of q).first ∷ q.reg ∷ low_high v) (a.value (omega arith)) in
      way_write q' count more wire (omega (arith, a.kind)) (omega (arith, a.kind)) ∙ sealed_alike more (write_covered q) (write_covered q') write
      ∙ sym (way_write q count (added + more) wire some (omega arith)))
      (λ (reads : 3 ≤ q.kind).
      let covered : read_on_way q' wire ≡ read_on_way q wire = ap₂ (λ (x y : ℕ). x ∷ y ∷ (wire ++ (0 ∷ []))) a.first a.reg in
      way_read q' count more wire (omega (arith, a.kind))
      ∙ ap₂ (λ (x : List ℕ) (v : ℕ). x ++ drop (length wire) (fill_pairs v)) (sealed_alike more (read_on_way q wire) (read_on_way q' wire) covered) a.values
      ∙ sym (way_read q count (added + more) wire reads))
      (below_or_not q.kind 3)
