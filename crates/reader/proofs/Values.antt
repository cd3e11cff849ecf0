-- The values that an answer's bytes carry, one by one: the last two bytes are the lowest address's.
use mathlib.Core.Path.{◌≡◌, sym, ap, ap₂, ◌∙◌}
use mathlib.Core.Logic.{⊎_elim}
use mathlib.Core.List.{List, [], ◌∷◌, reverse, reverse-cons}
use Prim.Native.Nat.{ℕ, suc, ◌+◌, ◌-◌, ◌*◌, ◌≤◌, ◌<◌}
use native.Mathlib.Nat.{not-suc-le-zero, eq-zero-or-pos}
use native.Mathlib.Omega.{arith}
use lib.ListN.{length, get_or, take, drop, length-reverse, length-drop, get_or-append}
use lib.Seq.{length-take-le, get_or_at, get_or-take, get_or-drop}
use Rattle.ground.proofs.Test.{below_or_not}
use Rattle.packing.specs.Words.{words_of}
use Rattle.packing.proofs.Back.{length_words, word_of}
use Rattle.lines.specs.Line.{bytes_of}
use Rattle.lines.proofs.Line.{length_bytes}
use Rattle.questions.specs.declared.question.Question.{Question}
use Rattle.readings.specs.Reading.{values_taken}
use Rattle.judging.specs.Judge.{judge_of}
use Rattle.judging.proofs.Accepted.{values_carried}
use Rattle.reader.specs.Read.{values_in, values_on}

reversed_at : (l : List ℕ) (k : ℕ) → k < length l → get_or (reverse l) k 0 ≡ get_or l (length l - 1 - k) 0
reversed_at [] k h = absurd (not-suc-le-zero h)
reversed_at (x ∷ l) k h =
    ap (λ (r : List ℕ). get_or r k 0) (reverse-cons x l)
    ∙ ⊎_elim
    (λ (before : k < length l).
    let place : suc (length l - 1 - k) ≡ suc (length l) - 1 - k = omega arith in
    get_or-append (reverse l) (x ∷ []) 0 k (omega (arith, length-reverse l)) ∙ reversed_at l k before ∙ ap (λ (i : ℕ). get_or (x ∷ l) i 0) place)
    (λ (last : length l ≤ k).
    let place : 0 ≡ suc (length l) - 1 - k = omega arith in
    get_or_at (reverse l) x [] 0 k (length-reverse l ∙ omega arith) ∙ ap (λ (i : ℕ). get_or (x ∷ l) i 0) place)
    (below_or_not k (length l))

module _ (bytes : List ℕ) (m : ℕ) (carried : 2 * m + 2 ≤ length bytes) where
  words_there : m ≤ length (words_of (drop 2 bytes))
  words_there = omega (arith, length_words (drop 2 bytes), length-drop 2 bytes)

  pub values_number : length (values_in bytes m) ≡ m
  values_number = length-reverse (take m (words_of (drop 2 bytes))) ∙ length-take-le m (words_of (drop 2 bytes)) words_there

  pub value_at : (k : ℕ) → k < m
      → get_or bytes (2 + 2 * (m - 1 - k)) 0 + 256 * get_or bytes (2 + 2 * (m - 1 - k) + 1) 0 ≡ get_or (values_in bytes m) k 0
  value_at k h =
      let words = words_of (drop 2 bytes) in
      let many = length-take-le m words words_there in
      let i = m - 1 - k in
      let next : 2 + (2 * i + 1) ≡ 2 + 2 * i + 1 = omega arith in
      sym (reversed_at (take m words) k (omega arith) ∙ ap (λ (n : ℕ). get_or (take m words) (n - 1 - k) 0) many
      ∙ get_or-take m words i 0 (omega arith) ∙ word_of (drop 2 bytes) i (omega (arith, length-drop 2 bytes))
      ∙ ap₂ (λ (low high : ℕ). low + 256 * high) (get_or-drop 2 bytes (2 * i) 0)
      (get_or-drop 2 bytes (2 * i + 1) 0 ∙ ap (λ (j : ℕ). get_or bytes j 0) next))

-- as many values are handed out as the reading says
pub handed_number : (q : Question) (line : List ℕ) (room : ℕ)
    → length (values_on line (values_taken (judge_of q line room))) ≡ values_taken (judge_of q line room)
handed_number q line room =
    let m = values_taken (judge_of q line room) in
    ⊎_elim (λ (none : m ≡ 0). ap (λ (n : ℕ). length (values_on line n)) none ∙ sym none)
    (λ (some : 0 < m). values_number (bytes_of line) m (omega (arith, values_carried q line room, length_bytes line)))
    (eq-zero-or-pos m)
