-- Laws of bytes read by nibbles: the nibbles of some words, two by two, are the bytes of the line that the words are part of.
use mathlib.Core.Path.{◌≡◌, sym, ap, ap₂, ◌∙◌}
use mathlib.Core.Logic.{⊎_elim}
use mathlib.Core.List.{List, ◌∷◌, ◌++◌, append_assoc}
use Prim.Native.Nat.{ℕ, zero, suc, ◌+◌, ◌-◌, ◌*◌, ◌/◌, ◌≤◌, ◌<◌, min}
use native.Mathlib.Nat.{zero-add, suc-add}
use native.Mathlib.Omega.{arith}
use lib.ListN.{length, get_or, take, drop, get_or-eq_default}
use lib.Seq.{sets, sets-eq, get_or-take, get_or-drop, drop-drop}
use Rattle.ground.specs.Sweep.{tabulated}
use Rattle.ground.proofs.Test.{below_or_not}
use Rattle.ground.proofs.Sweep.{tabulated_at, length_tabulated, tabulated_same}
use Rattle.ground.proofs.Lists.{sets_append, tabulated_shift}
use Rattle.characters.specs.Nibble.{true_bits}
use Rattle.lines.specs.Line.{byte_at}
use Rattle.lines.specs.Nibbles.{nibble_in, two_of}

-- the nibbles of some words, in a list
abbrev pub nibbles : List ℕ → List ℕ
nibbles words = tabulated (nibble_in words) (length words) 0

-- past the end too, where a word reads as 0 and its nibble is 0
pub nibbles_at : (words : List ℕ) (k : ℕ) → get_or (nibbles words) k 0 ≡ nibble_in words k
nibbles_at words k =
    ⊎_elim (λ h. tabulated_at (nibble_in words) (length words) 0 k h ∙ ap (nibble_in words) (zero-add k))
    (λ past. let none : length (nibbles words) ≤ k = omega (arith, length_tabulated (nibble_in words) (length words) 0) in
    get_or-eq_default (nibbles words) 0 none ∙ sym (ap true_bits (get_or-eq_default words 0 past)))
    (below_or_not k (length words))

pub nibbles_joined : (words : List ℕ) (n : ℕ) → tabulated (two_of (λ i. get_or (nibbles words) i 0)) n 0 ≡ tabulated (two_of (nibble_in words)) n 0
nibbles_joined words n =
    tabulated_same (two_of (λ i. get_or (nibbles words) i 0)) (two_of (nibble_in words)) n 0
    (λ k h. ap₂ (λ (x y : ℕ). x + 16 * y) (nibbles_at words (2 * k)) (nibbles_at words (2 * k + 1)))

-- the words of n bytes of a line, from byte k on
part_bytes : (line : List ℕ) (k n size : ℕ) → 2 * n ≤ size
    → tabulated (two_of (nibble_in (take size (drop (1 + 2 * k) line)))) n 0 ≡ tabulated (λ (j : ℕ). byte_at line (k + j)) n 0
unfolding byte_at
part_bytes line k n size h =
    let start = 1 + 2 * k in
    let part = take size (drop start line) in
    let word : (i at : ℕ) → i < size → start + i ≡ at → get_or part i 0 ≡ get_or line at 0 =
    λ i at inside e. get_or-take size (drop start line) i 0 inside ∙ get_or-drop start line i 0 ∙ ap (λ (p : ℕ). get_or line p 0) e in
    tabulated_same (two_of (nibble_in part)) (λ (j : ℕ). byte_at line (k + j)) n 0
    (λ j inside. ap₂ (λ (x y : ℕ). true_bits x + 16 * true_bits y) (word (2 * j) (1 + 2 * (k + j)) (omega arith) (omega arith))
    (word (2 * j + 1) (2 + 2 * (k + j)) (omega arith) (omega arith)))

-- ---- a list filled from a rule, part by part

-- a table, and the table from where it ends
tabulated_on : (f : ℕ → ℕ) (k m : ℕ) → tabulated f k 0 ++ tabulated (λ (j : ℕ). f (k + j)) m 0 ≡ tabulated f (k + m) 0
tabulated_on f zero m =
    tabulated_same (λ (j : ℕ). f (0 + j)) f m 0 (λ j h. ap f (zero-add j)) ∙ ap (λ (n : ℕ). tabulated f n 0) (sym (zero-add m))
tabulated_on f (suc k) m =
    ap (λ (l : List ℕ). f 0 ∷ l)
    (ap₂ ◌++◌ (tabulated_shift f k 0) (tabulated_same (λ (j : ℕ). f (suc k + j)) (λ (j : ℕ). f (suc (k + j))) m 0 (λ j h. ap f (suc-add k j)))
    ∙ tabulated_on (λ (j : ℕ). f (suc j)) k m ∙ sym (tabulated_shift f (k + m) 0))
    ∙ ap (λ (n : ℕ). tabulated f n 0) (sym (suc-add k m))

-- m more places
filled_part : (f : ℕ → ℕ) (l out : List ℕ) (k m : ℕ) → out ≡ sets l 0 (tabulated f k 0) → k + m ≤ length out
    → take k out ++ (tabulated (λ (j : ℕ). f (k + j)) m 0 ++ drop m (drop k out)) ≡ sets l 0 (tabulated f (k + m) 0)
filled_part f l out k m e room =
    let more = tabulated (λ (j : ℕ). f (k + j)) m 0 in
    let size : length more ≡ m = length_tabulated (λ (j : ℕ). f (k + j)) m 0 in
    ap (λ (r : List ℕ). take k out ++ (more ++ r)) (drop-drop m k out ∙ ap (λ (n : ℕ). drop (k + n) out) (sym size))
    ∙ sym (sets-eq more out k (omega arith) ∙ append_assoc (take k out) more (drop (k + length more) out))
    ∙ ap₂ (λ (o : List ℕ) (n : ℕ). sets o n more) e (sym (zero-add (length (tabulated f k 0)) ∙ length_tabulated f k 0))
    ∙ sym (sets_append l 0 (tabulated f k 0) more) ∙ ap (sets l 0) (tabulated_on f k m)

-- ---- one part of the bytes behind the other

-- a part is not empty: less is left after it. It ends within what is asked for, in the room and on the line
pub within : (room words many k part : ℕ) → many ≡ min ((words - 2) / 2) room → k < many → part ≡ min (many - k) 72
    → (many - (k + part) < many - k) × (k + part ≤ many) × (k + part ≤ room) × (1 + 2 * k + 2 * part ≤ words)
within room words many k part e h p = (omega arith, omega arith, omega arith, omega arith)

-- what a part leaves, as its contract says it, is the line's bytes at their places
pub put : (line out₀ out part : List ℕ) (k m words room : ℕ) → out ≡ sets out₀ 0 (tabulated (byte_at line) k 0)
    → k + m ≤ length out → words ≡ 2 * m → room ≡ m → length (take room (drop k out)) ≡ room
    → part ≡ tabulated (two_of (nibble_in (take words (drop (1 + 2 * k) line)))) (length (take room (drop k out))) 0
    → take k out ++ (part ++ drop room (drop k out)) ≡ sets out₀ 0 (tabulated (byte_at line) (k + m) 0)
put line out₀ out part k m words room e end w r size p =
    let bytes : ℕ → List ℕ = λ n. tabulated (two_of (nibble_in (take words (drop (1 + 2 * k) line)))) n 0 in
    ap₂ (λ (l : List ℕ) (n : ℕ). take k out ++ (l ++ drop n (drop k out)))
    (p ∙ ap bytes (size ∙ r) ∙ part_bytes line k m words (omega arith)) r
    ∙ filled_part (byte_at line) out₀ out k m e end
