-- Laws of the first failing place: it fails the test, every lower place passes it, and there is none exactly where all pass. By places, as the
-- loops go along a line; rows 4 and 6 find the same place.
use mathlib.Core.Path.{◌≡◌, refl, sym, ap, ap₂, ◌∙◌, subst}
use mathlib.Core.Bool.{Bool, true, false, cond, true≢false, false≢true}
use mathlib.Core.Logic.{⊎_elim}
use mathlib.Core.List.{List, [], ◌∷◌}
use Prim.Native.Nat.{ℕ, zero, suc, ◌+◌, ◌-◌, ◌≤◌, ◌<◌}
use native.Mathlib.Nat.{add-suc, add-zero, eq-or-lt_of_le, suc-add, zero-add}
use native.Mathlib.Numerals.{add-one, one-add}
use native.Mathlib.Omega.{arith}
use lib.ListN.{length, get_or}
use Rattle.character_check.specs.Check.{is_character}
use Rattle.characters.specs.Nibble.{is_nibble}
use Rattle.lines.specs.Line.{between}
use Rattle.lines.proofs.Between.{length_between, between_at}
use Rattle.scanning.specs.Place.{first_failing, first_no_character, first_no_nibble, is_nowhere, all_nibbles}
use Rattle.scanning.specs.Along.{failing_along}
use Rattle.std.specs.Prelude.{Option, Some, None, MatchOption}

is_nowhere_lem : (p : Option ℕ) → is_nowhere p ≡ true → p ≡ None
is_nowhere_lem (Some i) e = absurd (false≢true e)
is_nowhere_lem None e = refl

module _ (test : ℕ → Bool) (line : List ℕ) where
  -- ---- one place, and the rest up to an end: what a loop goes by
  module _ (i end : ℕ) where
    more : i < end → end - i ≡ suc (end - (i + 1))
    more h = omega arith

    pub scan_on : i < end → test (get_or line i 0) ≡ true → failing_along test line i (end - i) ≡ failing_along test line (i + 1) (end - (i + 1))
    unfolding failing_along
    scan_on h e =
        ap (failing_along test line i) (more h) ∙ ap (λ (t : Bool). cond t (failing_along test line (suc i) (end - (i + 1))) (Some i)) e
        ∙ ap (λ (k : ℕ). failing_along test line k (end - (i + 1))) (sym (add-one i))

    pub scan_here : i < end → test (get_or line i 0) ≡ false → failing_along test line i (end - i) ≡ Some i
    unfolding failing_along
    scan_here h e =
        ap (failing_along test line i) (more h) ∙ ap (λ (t : Bool). cond t (failing_along test line (suc i) (end - (i + 1))) (Some i)) e

    pub scan_done : end ≤ i → failing_along test line i (end - i) ≡ None
    unfolding failing_along
    scan_done h = let none : end - i ≡ 0 = omega arith in ap (failing_along test line i) none

  -- places that pass are passed over
  pub passed_over : (i n m : ℕ) → ((j : ℕ) → i ≤ j → j < i + n → test (get_or line j 0) ≡ true) → failing_along test line i (n + m) ≡ failing_along test line (i + n) m
  unfolding failing_along
  passed_over i zero m all = ap₂ (λ (k l : ℕ). failing_along test line k l) (sym (add-zero i)) (zero-add m)
  passed_over i (suc n) m all =
      ap (failing_along test line i) (suc-add n m)
      ∙ ap (λ (t : Bool). cond t (failing_along test line (suc i) (n + m)) (Some i)) (all i (omega arith) (omega arith))
      ∙ passed_over (suc i) n m (λ j lo hi. all j (omega arith) (omega arith))
      ∙ ap (λ (k : ℕ). failing_along test line k m) (suc-add i n ∙ sym (add-suc i n))

  -- ---- what the answer says

  -- the place fails, every lower one passes
  pub record FailsFirst (i n k : ℕ) : Type 0 where
    pub from : i ≤ k
    pub below : k < i + n
    pub fails : test (get_or line k 0) ≡ false
    pub passes : (j : ℕ) → i ≤ j → j < k → test (get_or line j 0) ≡ true

  abbrev pub Passes : (i n : ℕ) → Type 0
  Passes i n = (j : ℕ) → i ≤ j → j < i + n → test (get_or line j 0) ≡ true

  abbrev Says : (i n : ℕ) → Option ℕ → Type 0
  Says i n (Some k) = FailsFirst i n k
  Says i n None = Passes i n

  -- the first place passes, so all turns on the places after it
  also : (i j : ℕ) → test (get_or line i 0) ≡ true → (suc i ≤ j → test (get_or line j 0) ≡ true) → i ≤ j → test (get_or line j 0) ≡ true
  also i j e later h = ⊎_elim (λ same. ap (λ (k : ℕ). test (get_or line k 0)) (sym same) ∙ e) later (eq-or-lt_of_le h)

  passed : (i n : ℕ) (r : Option ℕ) → test (get_or line i 0) ≡ true → Says (suc i) n r → Says i (suc n) r
  passed i n (Some k) e s =
      record {
        from = let h = s.from in omega arith;
        below = let h = s.below in omega arith;
        fails = s.fails;
        passes = λ j lo hi. also i j e (λ h. s.passes j h hi) lo;
      }
  passed i n None e s = λ j lo hi. also i j e (λ h. s j h (omega arith)) lo

  here : (i n : ℕ) → test (get_or line i 0) ≡ false → FailsFirst i (suc n) i
  here i n e =
      record { from = omega arith; below = omega arith; fails = e; passes = λ j lo hi. absurd (omega arith) }

  scan_says : (i n : ℕ) → Says i n (failing_along test line i n)
  unfolding failing_along
  scan_says i zero = λ j lo hi. absurd (omega arith)
  scan_says i (suc n) = by_test (test (get_or line i 0)) refl (scan_says (suc i) n)
    where
      by_test : (t : Bool) → test (get_or line i 0) ≡ t → Says (suc i) n (failing_along test line (suc i) n)
          → Says i (suc n) (cond t (failing_along test line (suc i) n) (Some i))
      by_test true e s = passed i n (failing_along test line (suc i) n) e s
      by_test false e s = here i n e

  pub at_first : (i n k : ℕ) → failing_along test line i n ≡ Some k → FailsFirst i n k
  at_first i n k e = subst (Says i n) e (scan_says i n)

  pub nowhere_passes : (i n : ℕ) → failing_along test line i n ≡ None → Passes i n
  nowhere_passes i n e = subst (Says i n) e (scan_says i n)

  pub passes_nowhere : (i n : ℕ) → Passes i n → failing_along test line i n ≡ None
  passes_nowhere i n h = by_answer (failing_along test line i n) (scan_says i n)
    where
      by_answer : (r : Option ℕ) → Says i n r → r ≡ None
      by_answer (Some k) s = absurd (true≢false (sym (h k s.from s.below) ∙ s.fails))
      by_answer None s = refl

  -- what passes up to a place is passed over
  pub skipped : (i k end : ℕ) → i ≤ k → k ≤ end → failing_along test line i (k - i) ≡ None → failing_along test line k (end - k) ≡ failing_along test line i (end - i)
  skipped i k end lo hi none =
      let size : i + (k - i) ≡ k = omega arith in
      let rest : k - i + (end - k) ≡ end - i = omega arith in
      sym (passed_over i (k - i) (end - k) (nowhere_passes i (k - i) none) ∙ ap (λ (j : ℕ). failing_along test line j (end - k)) size)
      ∙ ap (failing_along test line i) rest

  -- what a search through the places answers
  pub found_first : (i end : ℕ) (r : Option ℕ)
      → MatchOption r ((j : ℕ) → i ≤ j → j < end → test (get_or line j 0) ≡ true)
      (λ k. (i ≤ k) × (k < end) × (test (get_or line k 0) ≡ false) × ((j : ℕ) → i ≤ j → j < k → test (get_or line j 0) ≡ true))
      → r ≡ failing_along test line i (end - i)
  found_first i end None all = sym (passes_nowhere i (end - i) (λ j lo hi. all j lo (omega arith)))
  found_first i end (Some k) found =
      sym (scan_here k end found.1 found.2)
      ∙ skipped i k end found.0 (let h = found.1 in omega arith) (passes_nowhere i (k - i) (λ j lo hi. found.3 j lo (let h = found.0 in omega arith)))

  -- a block in which no place is found passes as well
  pub block_on : (i k n : ℕ) → i ≤ k → failing_along test line i (k - i) ≡ None → is_nowhere (failing_along test line k (k + n - k)) ≡ true
      → failing_along test line i (k + n - i) ≡ None
  block_on i k n lo none block =
      sym (skipped i k (k + n) lo (omega arith) none) ∙ is_nowhere_lem (failing_along test line k (k + n - k)) block

-- where one test is the stricter, what passes it passes the other
pub weaker : (strict test : ℕ → Bool) → ((w : ℕ) → strict w ≡ true → test w ≡ true) → (line : List ℕ) (i n : ℕ)
    → failing_along strict line i n ≡ None → failing_along test line i n ≡ None
weaker strict test also line i n none =
    passes_nowhere test line i n (λ j lo hi. also (get_or line j 0) (nowhere_passes strict line i n none j lo hi))

-- ---- rows 4 and 6 by places

-- words that stand on a line from place i on
along : (test : ℕ → Bool) (line : List ℕ) (i : ℕ) (words : List ℕ) → ((k : ℕ) → k < length words → get_or words k 0 ≡ get_or line (i + k) 0)
    → first_failing test i words ≡ failing_along test line i (length words)
unfolding first_failing failing_along
along test line i [] stand = refl
along test line i (word ∷ words) stand =
    ap₂ (λ (w : ℕ) (p : Option ℕ). cond (test w) p (Some i)) (stand 0 (omega arith) ∙ ap (λ (k : ℕ). get_or line k 0) (add-zero i))
    (along test line (suc i) words
    (λ k h. stand (suc k) (omega arith) ∙ ap (λ (j : ℕ). get_or line j 0) (add-suc i k ∙ sym (suc-add i k))))

pub characters_along : (line : List ℕ) → first_no_character line ≡ failing_along is_character line 0 (length line)
unfolding first_no_character
characters_along line = along is_character line 0 line (λ k h. ap (λ (j : ℕ). get_or line j 0) (sym (zero-add k)))

pub nibbles_along : (line : List ℕ) → first_no_nibble line ≡ failing_along is_nibble line 1 (length line - 2)
unfolding first_no_nibble
nibbles_along line =
    along is_nibble line 1 (between line) (λ k h. between_at line k h ∙ ap (λ (j : ℕ). get_or line j 0) (sym (one-add k)))
    ∙ ap (failing_along is_nibble line 1) (length_between line)

-- where every word between the ends is a nibble's, MANCHESTER finds no place; and a place where not
pub nibbles_nowhere : (line : List ℕ) → all_nibbles line ≡ true → first_no_nibble line ≡ None
unfolding all_nibbles
nibbles_nowhere line e = is_nowhere_lem (first_no_nibble line) e

pub nowhere_nibbles : (line : List ℕ) → first_no_nibble line ≡ None → all_nibbles line ≡ true
unfolding all_nibbles
nowhere_nibbles line e = ap is_nowhere e
