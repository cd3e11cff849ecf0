-- Laws of a line written from bytes: its length, its words and its bytes.
use mathlib.Core.Path.{◌≡◌, refl, sym, ap, ap₂, ◌∙◌, subst}
use mathlib.Core.Logic.{⊎_elim}
use mathlib.Core.List.{List, [], ◌∷◌, ◌++◌}
use Prim.Native.Nat.{ℕ, zero, suc, ◌+◌, ◌-◌, ◌*◌, ◌/◌, ◌%◌, ◌≤◌, ◌<◌}
use native.Mathlib.Nat.{not-suc-le-zero, zero-add}
use native.Mathlib.Numerals.{one-add}
use native.Mathlib.Omega.{arith}
use lib.ListN.{length, get_or, length-append, get_or-append, get_or-eq_default}
use lib.Seq.{ext_get_or, get_or_at, sets}
use Rattle.ground.specs.Sweep.{tabulated}
use Rattle.ground.proofs.Test.{below_or_not}
use Rattle.ground.proofs.Sweep.{tabulated_at, length_tabulated}
use Rattle.ground.proofs.Lists.{filled_whole}
use Rattle.remainder.specs.Turned.{Bytes}
use Rattle.characters.specs.Character.{stop}
use Rattle.characters.specs.Nibble.{nibble_word, true_bits}
use Rattle.characters.proofs.Nibble.{true_bits_of, true_bits_lt, nibble_word_lt}
use Rattle.lines.specs.Line.{characters_of, line_of, byte_at, between, bytes_in, bytes_of}
use Rattle.lines.proofs.Between.{length_between, between_at}

pub length_characters : (bytes : List ℕ) → length (characters_of bytes) ≡ 2 * length bytes
unfolding characters_of
length_characters [] = refl
length_characters (b ∷ bytes) = let h = length_characters bytes in omega arith

pub length_line : (bytes : List ℕ) → length (line_of bytes) ≡ 2 * length bytes + 2
unfolding line_of
length_line bytes =
    omega (arith, length-append (characters_of bytes) (stop ∷ []), length_characters bytes)

-- ---- the words of a line: byte i has the words 1 + 2i and 2 + 2i, the last word is the stop character

two_more : (i : ℕ) → 2 * suc i ≡ suc (suc (2 * i))
two_more i = omega arith

low_character : (bytes : List ℕ) (i : ℕ) → i < length bytes → get_or (characters_of bytes) (2 * i) 0 ≡ nibble_word (get_or bytes i 0 % 16)
unfolding characters_of
low_character [] i h = absurd (not-suc-le-zero h)
low_character (b ∷ bytes) zero h = refl
low_character (b ∷ bytes) (suc i) h = rw two_more (low_character bytes i (omega arith))

high_character : (bytes : List ℕ) (i : ℕ) → i < length bytes → get_or (characters_of bytes) (suc (2 * i)) 0 ≡ nibble_word (get_or bytes i 0 / 16)
unfolding characters_of
high_character [] i h = absurd (not-suc-le-zero h)
high_character (b ∷ bytes) zero h = refl
high_character (b ∷ bytes) (suc i) h = rw two_more (high_character bytes i (omega arith))

inner : (bytes : List ℕ) (k : ℕ) → k < 2 * length bytes → get_or (line_of bytes) (suc k) 0 ≡ get_or (characters_of bytes) k 0
unfolding line_of
inner bytes k h = get_or-append (characters_of bytes) (stop ∷ []) 0 k (omega (arith, length_characters bytes))

pub low_word : (bytes : List ℕ) (i : ℕ) → i < length bytes → get_or (line_of bytes) (1 + 2 * i) 0 ≡ nibble_word (get_or bytes i 0 % 16)
low_word bytes i h =
    ap (λ (k : ℕ). get_or (line_of bytes) k 0) (one-add (2 * i)) ∙ inner bytes (2 * i) (omega arith) ∙ low_character bytes i h

pub high_word : (bytes : List ℕ) (i : ℕ) → i < length bytes → get_or (line_of bytes) (2 + 2 * i) 0 ≡ nibble_word (get_or bytes i 0 / 16)
high_word bytes i h =
    let place : 2 + 2 * i ≡ suc (suc (2 * i)) = omega arith in
    ap (λ (k : ℕ). get_or (line_of bytes) k 0) place ∙ inner bytes (suc (2 * i)) (omega arith) ∙ high_character bytes i h

pub last_word : (bytes : List ℕ) → get_or (line_of bytes) (1 + 2 * length bytes) 0 ≡ stop
unfolding line_of
last_word bytes =
    ap (λ (k : ℕ). get_or (line_of bytes) k 0) (one-add (2 * length bytes))
    ∙ get_or_at (characters_of bytes) stop [] 0 (2 * length bytes) (length_characters bytes)

-- ---- the bytes of a line

pub byte_of_line : (bytes : List ℕ) → Bytes bytes → (i : ℕ) → i < length bytes → byte_at (line_of bytes) i ≡ get_or bytes i 0
unfolding byte_at
byte_of_line bytes b i h =
    let byte = get_or bytes i 0 in
    let small = b i in
    ap₂ (λ (x y : ℕ). true_bits x + 16 * true_bits y) (low_word bytes i h) (high_word bytes i h)
    ∙ ap₂ (λ (x y : ℕ). x + 16 * y) (true_bits_of (byte % 16) (omega arith)) (true_bits_of (byte / 16) (omega arith))
    ∙ omega arith

-- how many bytes a line has, by its length
abbrev pub byte_count : List ℕ → ℕ
byte_count line = (length line - 2) / 2

length_carried : (words : List ℕ) → length (bytes_in words) ≡ length words / 2
unfolding bytes_in
length_carried [] = omega arith
length_carried (word ∷ []) = omega arith
length_carried (low ∷ high ∷ words) = let h = length_carried words in omega arith

carried_at : (words : List ℕ) (i : ℕ) → i < length words / 2
    → get_or (bytes_in words) i 0 ≡ true_bits (get_or words (2 * i) 0) + 16 * true_bits (get_or words (suc (2 * i)) 0)
unfolding bytes_in
carried_at [] i h = absurd (omega arith)
carried_at (word ∷ []) i h = absurd (omega arith)
carried_at (low ∷ high ∷ words) zero h = refl
carried_at (low ∷ high ∷ words) (suc i) h = rw two_more (carried_at words i (omega arith))

pub length_bytes : (line : List ℕ) → length (bytes_of line) ≡ byte_count line
unfolding bytes_of
length_bytes line = omega (arith, length_carried (between line), length_between line)

pub bytes_at : (line : List ℕ) (i : ℕ) → i < byte_count line → get_or (bytes_of line) i 0 ≡ byte_at line i
unfolding bytes_of byte_at
bytes_at line i h =
    let size = length_between line in
    let word : (k at : ℕ) → k < length (between line) → suc k ≡ at → get_or (between line) k 0 ≡ get_or line at 0 =
    λ k at inside e. between_at line k inside ∙ ap (λ (p : ℕ). get_or line p 0) e in
    carried_at (between line) i (omega arith)
    ∙ ap₂ (λ (x y : ℕ). true_bits x + 16 * true_bits y) (word (2 * i) (1 + 2 * i) (omega arith) (omega arith))
    (word (suc (2 * i)) (2 + 2 * i) (omega arith) (omega arith))

-- byte by byte, by the words' places
pub bytes_by_place : (line : List ℕ) → bytes_of line ≡ tabulated (byte_at line) (byte_count line) 0
bytes_by_place line =
    let table = tabulated (byte_at line) (byte_count line) 0 in
    ext_get_or 0 (bytes_of line) table (length_bytes line ∙ sym (length_tabulated (byte_at line) (byte_count line) 0))
    (λ i h. let inside : i < byte_count line = omega (arith, length_bytes line) in
    bytes_at line i inside ∙ sym (tabulated_at (byte_at line) (byte_count line) 0 i inside ∙ ap (byte_at line) (zero-add i)))

pub byte_lt : (line : List ℕ) (i : ℕ) → byte_at line i < 256
unfolding byte_at
byte_lt line i = omega (arith, true_bits_lt (get_or line (1 + 2 * i) 0), true_bits_lt (get_or line (2 + 2 * i) 0))

pub bytes_bytes : (line : List ℕ) → Bytes (bytes_of line)
bytes_bytes line i =
    ⊎_elim (λ h. omega (arith, bytes_at line i h, byte_lt line i))
    (λ h. let past : length (bytes_of line) ≤ i = omega (arith, length_bytes line) in omega (arith, get_or-eq_default (bytes_of line) 0 past))
    (below_or_not i (byte_count line))

-- reading back what was written
pub bytes_of_line : (bytes : List ℕ) → Bytes bytes → bytes_of (line_of bytes) ≡ bytes
bytes_of_line bytes b =
    let count : length (bytes_of (line_of bytes)) ≡ length bytes = omega (arith, length_bytes (line_of bytes), length_line bytes) in
    ext_get_or 0 (bytes_of (line_of bytes)) bytes count
    (λ i h. bytes_at (line_of bytes) i (omega (arith, length_bytes (line_of bytes))) ∙ byte_of_line bytes b i (omega arith))

-- where as many bytes are lent as the line has, they are the line's
pub all_read : (line out : List ℕ) → length out ≡ byte_count line → sets out 0 (bytes_of line) ≡ bytes_of line
all_read line out e =
    ap (sets out 0) (bytes_by_place line) ∙ ap (λ (n : ℕ). sets out 0 (tabulated (byte_at line) n 0)) (sym e) ∙ filled_whole (byte_at line) out
    ∙ ap (λ (n : ℕ). tabulated (byte_at line) n 0) e ∙ sym (bytes_by_place line)

-- the places of a line of n bytes: the first, two for each byte, the last
pub by_place : (P : ℕ → Type 0) (n : ℕ) → P 0 → ((i : ℕ) → i < n → P (1 + 2 * i)) → ((i : ℕ) → i < n → P (2 + 2 * i)) → P (1 + 2 * n)
    → (j : ℕ) → j < 2 * n + 2 → P j
by_place P n first low high last zero h = first
by_place P n first low high last (suc k) h = by_digit (k % 2) refl
  where
    by_digit : (d : ℕ) → k % 2 ≡ d → P (suc k)
    by_digit zero e =
        ⊎_elim (λ lt. let at : 1 + 2 * (k / 2) ≡ suc k = omega arith in subst P at (low (k / 2) lt))
        (λ ge. let at : 1 + 2 * n ≡ suc k = omega arith in subst P at last) (below_or_not (k / 2) n)
    by_digit (suc zero) e = let at : 2 + 2 * (k / 2) ≡ suc k = omega arith in subst P at (high (k / 2) (omega arith))
    by_digit (suc (suc d)) e = absurd (omega arith)

-- the words of a line are words
characters_wide : (bytes : List ℕ) (i : ℕ) → get_or (characters_of bytes ++ (stop ∷ [])) i 0 < 65536
unfolding characters_of
characters_wide [] zero = omega arith
characters_wide [] (suc i) = omega arith
characters_wide (b ∷ bytes) zero = omega (arith, nibble_word_lt (b % 16))
characters_wide (b ∷ bytes) (suc zero) = omega (arith, nibble_word_lt (b / 16))
characters_wide (b ∷ bytes) (suc (suc i)) = characters_wide bytes i

pub line_wide : (bytes : List ℕ) (i : ℕ) → get_or (line_of bytes) i 0 < 65536
unfolding line_of
line_wide bytes zero = omega arith
line_wide bytes (suc i) = characters_wide bytes i
