-- Bytes laid one behind the other: what follows of the whole from its parts. A store beyond the end does nothing, so no law asks for room.
use mathlib.Core.Path.{◌≡◌, refl, sym, ap, ap₂, ◌∙◌, subst}
use mathlib.Core.List.{List, [], ◌++◌}
use Prim.Native.Nat.{ℕ, ◌+◌}
use native.Mathlib.Nat.{add-zero}
use native.Mathlib.Numerals.{add-one}
use native.Mathlib.Omega.{arith}
use lib.ListN.{length-append}
use lib.Seq.{sets}
use Rattle.ground.proofs.Lists.{sets_append}
use Rattle.printing.specs.Text.{first_lines}
use Rattle.printing.specs.Print.{StoredAt, Laid}
use Rattle.printing.specs.declared.figures.Sheet.{Sheet}

pub laid_nothing : (s : Sheet) → Laid s [] s
laid_nothing s = record { same = refl; stored = record { leaves = refl; up = sym (add-zero s.at) } }

stored_then : {l l' l'' xs ys : List ℕ} {at middle end : ℕ} → StoredAt l at xs l' middle → StoredAt l' middle ys l'' end → StoredAt l at (xs ++ ys) l'' end
stored_then {l} {xs = xs} {ys} {at} first second = record {
  leaves = second.leaves ∙ ap₂ (λ (before : List ℕ) (k : ℕ). sets before k ys) first.leaves first.up ∙ sym (sets_append l at xs ys);
  up = omega (arith, first.up, second.up, length-append xs ys);
}

-- one run of bytes, and another behind it
pub laid_then : {s s' s'' : Sheet} {xs ys : List ℕ} → Laid s xs s' → Laid s' ys s'' → Laid s (xs ++ ys) s''
laid_then first second = record { same = second.same ∙ first.same; stored = stored_then first.stored second.stored }

-- the same, and what the two make up
pub laid_more : {s s' s'' : Sheet} {xs ys zs : List ℕ} → xs ++ ys ≡ zs → Laid s xs s' → Laid s' ys s'' → Laid s zs s''
laid_more {s} {s'' = s''} whole first second = subst (λ (all : List ℕ). Laid s all s'') whole (laid_then first second)

-- one more line
pub laid_line : {s s' s'' : Sheet} (line : ℕ → List ℕ) (k : ℕ) → Laid s (first_lines line k) s' → Laid s' (line k) s'' → Laid s (first_lines line (k + 1)) s''
unfolding first_lines
laid_line line k first second = laid_more (ap (first_lines line) (sym (add-one k))) first second

-- the lent memory at the end, which is what lies under the sheet then
pub laid_out : {s s' : Sheet} {bytes left : List ℕ} → Laid s bytes s' → (s.text.ghost_name ≡ s'.text.ghost_name → left ≡ s'.text.now)
    → StoredAt s.text.now s.at bytes left s'.at
laid_out laid ends = record { leaves = ends (sym laid.same) ∙ laid.stored.leaves; up = laid.stored.up }
