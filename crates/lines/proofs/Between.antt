-- Laws of a line's ends and of the words between them, by places: how many there are, and which.
use mathlib.Core.Path.{◌≡◌, refl, ap, ◌∙◌}
use mathlib.Core.List.{List, [], ◌∷◌, drop_last, get_last, get_last_d, cons-ne-nil}
use Prim.Native.Nat.{ℕ, zero, suc, ◌-◌, ◌<◌}
use native.Mathlib.Nat.{not-suc-le-zero, le_of_suc-le-suc}
use native.Mathlib.Omega.{arith}
use lib.ListN.{length, get_or}
use Rattle.lines.specs.Line.{between}

-- ---- a list without its last

length_but_last : (l : List ℕ) → length (drop_last l) ≡ length l - 1
length_but_last [] = omega arith
length_but_last (a ∷ []) = omega arith
length_but_last (a ∷ b ∷ l) = let h = length_but_last (b ∷ l) in omega arith

but_last_at : (l : List ℕ) (k : ℕ) → k < length (drop_last l) → get_or (drop_last l) k 0 ≡ get_or l k 0
but_last_at [] k h = absurd (not-suc-le-zero h)
but_last_at (a ∷ []) k h = absurd (not-suc-le-zero h)
but_last_at (a ∷ b ∷ l) zero h = refl
but_last_at (a ∷ b ∷ l) (suc k) h = but_last_at (b ∷ l) k (le_of_suc-le-suc h)

-- ---- the words between

pub length_between : (line : List ℕ) → length (between line) ≡ length line - 2
length_between [] = omega arith
length_between (word ∷ words) = let h = length_but_last words in omega arith

pub between_at : (line : List ℕ) (k : ℕ) → k < length (between line) → get_or (between line) k 0 ≡ get_or line (suc k) 0
between_at [] k h = absurd (not-suc-le-zero h)
between_at (word ∷ words) k h = but_last_at words k h

-- ---- the last word

last_there : (word : ℕ) (words : List ℕ) → get_last (word ∷ words) (cons-ne-nil word words) ≡ get_or (word ∷ words) (length words) 0
last_there word [] = refl
last_there word (next ∷ words) = last_there next words

pub last_at : (line : List ℕ) → get_last_d line 0 ≡ get_or line (length line - 1) 0
unfolding get_last_d
last_at [] = refl
last_at (word ∷ words) =
    let end : length words ≡ length (word ∷ words) - 1 = omega arith in
    last_there word words ∙ ap (λ (k : ℕ). get_or (word ∷ words) k 0) end
