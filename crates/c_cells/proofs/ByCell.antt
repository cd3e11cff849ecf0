-- Lent memory filled cell by cell: one cell more, and all of them.
use mathlib.Core.Path.{◌≡◌, refl, sym, ap, ap₂, ◌∙◌}
use mathlib.Core.List.{List, [], ◌∷◌}
use Prim.Native.Nat.{ℕ, zero, suc, ◌+◌, ◌<◌}
use native.Mathlib.Numerals.{add-one}
use native.Mathlib.Omega.{arith}
use native.Mathlib.Nat.{le_of_suc-le-suc, not-suc-le-zero}
use lib.ListN.{length, take, set, get_or}
use lib.Seq.{take_all}
use Rattle.cells.specs.declared.Cell.{Cell}
use Rattle.c_cells.specs.CellsBytes.{by_cell}

module _ {A : Type 0} (after : Cell → A → A) where
  next_cell : (cells : List Cell) (before : List A) (k : ℕ) (none : Cell) (nothing : A) → k < length cells → k < length before
      → set (by_cell after (take k cells) before) k (after (get_or cells k none) (get_or (by_cell after (take k cells) before) k nothing))
      ≡ by_cell after (take (suc k) cells) before
  next_cell [] before k none nothing h i = absurd (not-suc-le-zero h)
  next_cell (cell ∷ cells) [] k none nothing h i = absurd (not-suc-le-zero i)
  next_cell (cell ∷ cells) (b ∷ before) zero none nothing h i = refl
  next_cell (cell ∷ cells) (b ∷ before) (suc k) none nothing h i =
      ap (λ (l : List A). after cell b ∷ l) (next_cell cells before k none nothing (le_of_suc-le-suc h) (le_of_suc-le-suc i))

  module _ (cells : List Cell) (before : List A) (k : ℕ) (now : List A) (done : now ≡ by_cell after (take k cells) before) where
    -- where the first k cells are done, the next one changes its own place
    pub one_more : (none : Cell) (nothing value : A) → k < length cells → k < length before → value ≡ after (get_or cells k none) (get_or now k nothing)
        → set now k value ≡ by_cell after (take (k + 1) cells) before
    one_more none nothing value h i is =
        ap₂ (λ (l : List A) (v : A). set l k v) done (is ∙ ap (λ (l : List A). after (get_or cells k none) (get_or l k nothing)) done)
        ∙ next_cell cells before k none nothing h i
        ∙ ap (λ (n : ℕ). by_cell after (take n cells) before) (sym (add-one k))

    -- and k cells are all of them
    pub all_done : length cells ≡ k → now ≡ by_cell after cells before
    all_done e = done ∙ ap (λ (l : List Cell). by_cell after l before) (take_all k cells (omega arith))
