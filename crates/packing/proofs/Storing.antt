-- Words and bytes stored place by place.
use mathlib.Core.Path.{◌≡◌, refl, sym, ap, ap₂, ◌∙◌}
use mathlib.Core.Logic.{⊎_elim}
use mathlib.Core.List.{List, [], ◌∷◌}
use Prim.Native.Nat.{ℕ, suc, ◌+◌, ◌*◌, ◌/◌, ◌%◌, ◌-◌, ◌≤◌, ◌<◌, min}
use native.Mathlib.Nat.{zero-add}
use native.Mathlib.Numerals.{add-one}
use native.Mathlib.Omega.{arith}
use lib.ListN.{length, get_or, take, drop, set, take-append-drop}
use lib.Seq.{sets, set_out, take-suc, take_all, length-take-le, length-sets}
use Rattle.ground.specs.Sweep.{tabulated}
use Rattle.ground.proofs.Test.{below_or_not}
use Rattle.ground.proofs.Sweep.{tabulated_same}
use Rattle.ground.proofs.Lists.{sets_append, tabulated_shift}
use Rattle.packing.specs.Words.{words_of, as_bytes, word_at, with_word}
use Rattle.packing.proofs.Back.{length_bytes, bytes_append}

-- the words of some bytes, place by place
pub words_tabulated : (bytes : List ℕ) → words_of bytes ≡ tabulated (word_at bytes) (length bytes / 2) 0
unfolding words_of
words_tabulated [] = refl
words_tabulated (b ∷ []) = refl
words_tabulated (low ∷ high ∷ rest) =
    let half : (length rest + 2) / 2 ≡ suc (length rest / 2) = omega arith in
    let both : suc (suc (length rest)) ≡ length rest + 2 = omega arith in
    ap (λ (l : List ℕ). (low + 256 * high) ∷ l)
    (words_tabulated rest
    ∙ tabulated_same (word_at rest) (λ (k : ℕ). word_at (low ∷ high ∷ rest) (suc k)) (length rest / 2) 0 (λ k h. later k)
    ∙ sym (tabulated_shift (word_at (low ∷ high ∷ rest)) (length rest / 2) 0))
    ∙ sym (ap (λ (n : ℕ). tabulated (word_at (low ∷ high ∷ rest)) n 0) (ap (λ (n : ℕ). n / 2) both ∙ half))
  where
    later : (k : ℕ) → word_at rest k ≡ word_at (low ∷ high ∷ rest) (suc k)
    later k =
        let even : 2 * suc k ≡ suc (suc (2 * k)) = omega arith in
        let odd : 2 * suc k + 1 ≡ suc (suc (2 * k + 1)) = omega arith in
        sym (ap₂ (λ (i j : ℕ). get_or (low ∷ high ∷ rest) i 0 + 256 * get_or (low ∷ high ∷ rest) j 0) even odd)

-- one more word's bytes
pub bytes_next : (out words : List ℕ) (k : ℕ) → k < length words
    → with_word (sets out 0 (as_bytes (take k words))) k (get_or words k 0) ≡ sets out 0 (as_bytes (take (k + 1) words))
unfolding as_bytes
bytes_next out words k h =
    let w = get_or words k 0 in
    let at : length (as_bytes (take k words)) ≡ 2 * k = length_bytes (take k words) ∙ ap (λ (n : ℕ). 2 * n) (length-take-le k words (omega arith)) in
    sym (ap (λ (n : ℕ). sets out 0 (as_bytes (take n words))) (add-one k) ∙ ap (λ (l : List ℕ). sets out 0 (as_bytes l)) (take-suc words k 0 h)
    ∙ ap (sets out 0) (bytes_append (take k words) (w ∷ [])) ∙ sets_append out 0 (as_bytes (take k words)) (w % 256 ∷ w / 256 ∷ [])
    ∙ ap (λ (n : ℕ). set (set (sets out 0 (as_bytes (take k words))) n (w % 256)) (suc n) (w / 256)) (zero-add (length (as_bytes (take k words))) ∙ at)
    ∙ ap (λ (n : ℕ). set (set (sets out 0 (as_bytes (take k words))) (2 * k) (w % 256)) n (w / 256)) (sym (add-one (2 * k))))

-- as many words as there are and as there is room for
pub all_that_fit : (words : List ℕ) (k room : ℕ) → k ≤ length words → k ≤ room → min (length words) room ≤ k → take k words ≡ take room words
all_that_fit words k room there fits most =
    ⊎_elim
    (λ (less : k < length words). let full : k ≡ room = omega arith in ap (λ (n : ℕ). take n words) full)
    (λ (all : length words ≤ k). take_all k words all ∙ sym (take_all room words (omega arith)))
    (below_or_not k (length words))

-- ---- bytes stored from a place on

-- beyond the end nothing is stored
pub all_beyond : (out : List ℕ) (at : ℕ) (bytes : List ℕ) → length out ≤ at → sets out at bytes ≡ out
all_beyond out at [] beyond = refl
all_beyond out at (b ∷ bytes) beyond =
    ap (λ (l : List ℕ). sets l (suc at) bytes) (set_out out at b beyond) ∙ all_beyond out (suc at) bytes (omega arith)

-- one more
pub stored_next : (out : List ℕ) (at : ℕ) (bytes : List ℕ) (i : ℕ) → i < length bytes
    → set (sets out at (take i bytes)) (at + i) (get_or bytes i 0) ≡ sets out at (take (i + 1) bytes)
stored_next out at bytes i h =
    sym (ap (λ (n : ℕ). sets out at (take n bytes)) (add-one i) ∙ ap (sets out at) (take-suc bytes i 0 h)
    ∙ sets_append out at (take i bytes) (get_or bytes i 0 ∷ [])
    ∙ ap (λ (n : ℕ). set (sets out at (take i bytes)) (at + n) (get_or bytes i 0)) (length-take-le i bytes (omega arith)))

-- all that there is, or all that there is room for
pub stored_all : (out : List ℕ) (at : ℕ) (bytes : List ℕ) (i : ℕ) → i ≤ length bytes → min (length bytes) (length out - at) ≤ i
    → sets out at (take i bytes) ≡ sets out at bytes
stored_all out at bytes i there most =
    ⊎_elim
    (λ (less : i < length bytes).
    sym (ap (sets out at) (sym (take-append-drop i bytes)) ∙ sets_append out at (take i bytes) (drop i bytes)
    ∙ all_beyond (sets out at (take i bytes)) (at + length (take i bytes)) (drop i bytes)
    (omega (arith, length-sets out at (take i bytes), length-take-le i bytes there))))
    (λ (all : length bytes ≤ i). ap (sets out at) (take_all i bytes all))
    (below_or_not i (length bytes))
