-- Laws of lists that the library lacks.
use mathlib.Core.Path.{◌≡◌, refl, sym, ap, ap₂, ◌∙◌}
use mathlib.Core.Logic.{⊎_elim}
use mathlib.Core.List.{List, [], ◌∷◌, ◌++◌, append_assoc, append-nil}
use Prim.Native.Nat.{ℕ, zero, suc, ◌+◌, ◌-◌, ◌≤◌, ◌<◌, min}
use native.Mathlib.Nat.{add-zero, add-suc, suc-add, zero-add, le_of_suc-le-suc, not-suc-le-zero}
use native.Mathlib.Numerals.{add-one}
use native.Mathlib.Omega.{arith}
use lib.ListN.{length, get_or, take, drop, set, length-drop, drop_of_length-le}
use lib.Seq.{sets, sets-eq, set_out, length-sets, take-suc, take_all, ext_get_or}
use Rattle.ground.specs.Sweep.{tabulated}
use Rattle.ground.proofs.Test.{below_or_not}
use Rattle.ground.proofs.Sweep.{length_tabulated, tabulated_at}

-- two runs of stores, one behind the other
pub sets_append : (l : List ℕ) (i : ℕ) (xs ys : List ℕ) → sets l i (xs ++ ys) ≡ sets (sets l i xs) (i + length xs) ys
sets_append l i [] ys = ap (λ (k : ℕ). sets l k ys) (sym (add-zero i))
sets_append l i (x ∷ xs) ys =
    sets_append (set l i x) (suc i) xs ys
    ∙ ap (λ (k : ℕ). sets (sets (set l i x) (suc i) xs) k ys) (suc-add i (length xs) ∙ sym (add-suc i (length xs)))

-- a run of stores from the start: the stored at the front, the rest as it was
pub sets_front : (vs l : List ℕ) → length vs ≤ length l → sets l 0 vs ≡ vs ++ drop (length vs) l
sets_front vs l h =
    let room : 0 + length vs ≤ length l = omega arith in
    sets-eq vs l 0 room ∙ ap (λ (k : ℕ). vs ++ drop k l) (zero-add (length vs))

-- ---- a list filled from a rule, place by place

tabulated_last : (f : ℕ → ℕ) (n i : ℕ) → tabulated f (suc n) i ≡ tabulated f n i ++ (f (i + n) ∷ [])
tabulated_last f zero i = ap (λ (k : ℕ). f k ∷ []) (sym (add-zero i))
tabulated_last f (suc n) i =
    ap (λ (l : List ℕ). f i ∷ l)
    (tabulated_last f n (suc i) ∙ ap (λ (k : ℕ). tabulated f n (suc i) ++ (f k ∷ [])) (suc-add i n ∙ sym (add-suc i n)))

-- one more entry
pub tabulated_next : (f : ℕ → ℕ) (n i : ℕ) → tabulated f n i ++ (f (i + n) ∷ []) ≡ tabulated f (n + 1) i
tabulated_next f n i = sym (ap (λ (m : ℕ). tabulated f m i) (add-one n) ∙ tabulated_last f n i)

-- one more place
pub filled_next : (f : ℕ → ℕ) (l : List ℕ) (k : ℕ) → set (sets l 0 (tabulated f k 0)) k (f k) ≡ sets l 0 (tabulated f (k + 1) 0)
filled_next f l k =
    sym (ap (λ (n : ℕ). sets l 0 (tabulated f n 0)) (add-one k) ∙ ap (sets l 0) (tabulated_last f k 0)
    ∙ sets_append l 0 (tabulated f k 0) (f (0 + k) ∷ [])
    ∙ ap₂ (λ (at from : ℕ). set (sets l 0 (tabulated f k 0)) at (f from)) (zero-add (length (tabulated f k 0)) ∙ length_tabulated f k 0)
    (zero-add k))

-- a table from its second place on
pub tabulated_shift : (f : ℕ → ℕ) (n i : ℕ) → tabulated f n (suc i) ≡ tabulated (λ (k : ℕ). f (suc k)) n i
tabulated_shift f zero i = refl
tabulated_shift f (suc n) i = ap (λ (l : List ℕ). f (suc i) ∷ l) (tabulated_shift f n (suc i))

-- the front of a list, entry by entry
pub tabulated_front : (k : ℕ) (l : List ℕ) → k ≤ length l → l ≡ tabulated (λ (i : ℕ). get_or l i 0) k 0 ++ drop k l
tabulated_front zero l h = refl
tabulated_front (suc k) [] h = absurd (not-suc-le-zero h)
tabulated_front (suc k) (x ∷ l) h =
    ap (λ (r : List ℕ). x ∷ r)
    (tabulated_front k l (le_of_suc-le-suc h) ∙ ap (λ (r : List ℕ). r ++ drop k l) (sym (tabulated_shift (λ (i : ℕ). get_or (x ∷ l) i 0) k 0)))

-- two more of a list
pub take_two : (l : List ℕ) (k : ℕ) → suc k < length l → take (suc (suc k)) l ≡ take k l ++ (get_or l k 0 ∷ get_or l (suc k) 0 ∷ [])
take_two l k h =
    take-suc l (suc k) 0 h ∙ ap (λ (x : List ℕ). x ++ (get_or l (suc k) 0 ∷ [])) (take-suc l k 0 (omega arith))
    ∙ append_assoc (take k l) (get_or l k 0 ∷ []) (get_or l (suc k) 0 ∷ [])

-- all places filled: the table, and nothing of what was there
pub filled_whole : (f : ℕ → ℕ) (l : List ℕ) → sets l 0 (tabulated f (length l) 0) ≡ tabulated f (length l) 0
filled_whole f l =
    let vs = tabulated f (length l) 0 in
    let all : length vs ≡ length l = length_tabulated f (length l) 0 in
    let none : length l ≤ length vs = omega (arith, all) in
    sets_front vs l (omega (arith, all)) ∙ ap (λ (rest : List ℕ). vs ++ rest) (drop_of_length-le l none) ∙ append-nil vs

-- a list is the table of its own entries
pub tabulated_own : (l : List ℕ) → tabulated (λ (k : ℕ). get_or l k 0) (length l) 0 ≡ l
tabulated_own l =
    let own : ℕ → ℕ = λ k. get_or l k 0 in
    ext_get_or 0 (tabulated own (length l) 0) l (length_tabulated own (length l) 0)
    (λ i h. tabulated_at own (length l) 0 i (omega (arith, length_tabulated own (length l) 0)) ∙ ap own (zero-add i))

-- a part up to the end
pub part_to_end : {A : Type 0} (l : List A) (at : ℕ) → take (length l - at) (drop at l) ≡ drop at l
part_to_end l at = take_all (length l - at) (drop at l) (omega (arith, length-drop at l))

-- places beyond the end: what is filled there is filled nowhere
beyond : (f : ℕ → ℕ) (l : List ℕ) (d : ℕ) → sets l 0 (tabulated f (length l + d) 0) ≡ sets l 0 (tabulated f (length l) 0)
beyond f l zero = ap (λ (n : ℕ). sets l 0 (tabulated f n 0)) (add-zero (length l))
beyond f l (suc d) =
    let k = length l + d in
    let next : length l + suc d ≡ k + 1 = omega arith in
    let full = sets l 0 (tabulated f k 0) in
    ap (λ (n : ℕ). sets l 0 (tabulated f n 0)) next ∙ sym (filled_next f l k)
    ∙ set_out full k (f k) (omega (arith, length-sets l 0 (tabulated f k 0))) ∙ beyond f l d

-- as far as there is room
pub filled_room : (f : ℕ → ℕ) (l : List ℕ) (n : ℕ) → sets l 0 (tabulated f (min n (length l)) 0) ≡ sets l 0 (tabulated f n 0)
filled_room f l n =
    ⊎_elim
    (λ (few : n < length l). let all : min n (length l) ≡ n = omega arith in ap (λ (k : ℕ). sets l 0 (tabulated f k 0)) all)
    (λ (many : length l ≤ n). let all : min n (length l) ≡ length l = omega arith in let more : length l + (n - length l) ≡ n = omega arith in
    ap (λ (k : ℕ). sets l 0 (tabulated f k 0)) all ∙ sym (beyond f l (n - length l)) ∙ ap (λ (k : ℕ). sets l 0 (tabulated f k 0)) more)
    (below_or_not n (length l))
