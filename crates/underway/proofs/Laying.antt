-- Bytes laid one behind the other: what follows of the whole from its parts.
use Rattle.std.proofs.Common.{◌≡◌, ℕ, zero, suc, ◌+◌, List, [], ◌∷◌, ◌++◌, sym, refl, ap, ◌∙◌, add-one}
use Rattle.questions.specs.Bytes.{fill_pairs}

-- one more fill pair
pub pairs_next : (i : ℕ) → fill_pairs i ++ (0xC2 ∷ 0xD3 ∷ []) ≡ fill_pairs (i + 1)
unfolding fill_pairs
pairs_next i = last i ∙ ap fill_pairs (sym (add-one i))
  where
    last : (i : ℕ) → fill_pairs i ++ (0xC2 ∷ 0xD3 ∷ []) ≡ fill_pairs (suc i)
    last zero = refl
    last (suc i) = ap (λ (l : List ℕ). 0xC2 ∷ 0xD3 ∷ l) (last i)
