-- What it means that a contract leaves nothing open. A contract, as the checker reads it off the source, relates the lifetimes,
-- what a call was given, its answer, and what it leaves behind in the caller's hands.
use Rattle.std.specs.Prelude.{◌≡◌}

module _ {ℓ κ ι} {L : Type ℓ} {Given : L → Type κ} {Answer : L → Type 0} {Left : L → Type ι} where
  -- two answers that meet the contract are the same
  abbrev pub Settled : ((l : L) → Given l → Answer l → Left l → Type 0) → Type (ℓ ⊔ κ ⊔ ι)
  Settled Contract =
      (l : L) (given : Given l) (r r' : Answer l) (left left' : Left l)
      → Contract l given r left → Contract l given r' left' → r ≡ r'

  -- two calls that meet the contract leave the same in the lent memory that is looked at
  abbrev pub SettledIn : {Memory : Type 0} → ((l : L) → Left l → Memory) → ((l : L) → Given l → Answer l → Left l → Type 0) → Type (ℓ ⊔ κ ⊔ ι)
  SettledIn look Contract =
      (l : L) (given : Given l) (r r' : Answer l) (left left' : Left l)
      → Contract l given r left → Contract l given r' left' → look l left ≡ look l left'
