-- The stops and parity, told by arithmetic: of a word that has its start and its stops, the number of all set bits is even exactly where parity is,
-- which one computed test of the words without high bits shows.
use mathlib.Core.Path.{◌≡◌, refl, sym, ap, ◌∙◌}
use mathlib.Core.Bool.{Bool, true, false, ◌&&◌, beq}
use Prim.Native.Nat.{ℕ, zero, suc, ◌+◌, ◌*◌, ◌/◌, ◌%◌, ◌^◌, ◌<◌}
use native.Mathlib.Nat.{pow-suc}
use native.Mathlib.Omega.{arith}
use lib.Count.{ones, ones_in, ones_step}
use lib.Dec.{eqb}
use borrow.Author.Tests.{eq-eqb, eqb-true}
use Rattle.ground.specs.Sweep.{every}
use Rattle.ground.proofs.Test.{same_truth}
use Rattle.ground.proofs.Sweep.{swept}
use Rattle.characters.specs.Character.{bit}
use Rattle.character_check.specs.Check.{started, stopped, even_parity}
use Rattle.character_check.specs.Fault.{unless, checked_of}
use Rattle.character_check.specs.declared.Fault.TheVariants.{Parity}
use Rattle.std.specs.Prelude.{Ok}

-- ---- the stops

-- bit 11 is the bit above bit 10
above : (w : ℕ) → w / 2 ^ 11 ≡ w / 1024 / 2
above w = omega arith

two_bits : (x : ℕ) → x % 2 ≡ 1 → x / 2 % 2 ≡ 1 → x % 4 ≡ 3
two_bits x lower upper =
    let whole : x ≡ 3 + 4 * (x / 2 / 2) = omega arith in
    let rest : (3 + 4 * (x / 2 / 2)) % 4 ≡ 3 = omega arith in
    ap (λ (n : ℕ). n % 4) whole ∙ rest

both_stops : (w : ℕ) → w / 1024 % 4 ≡ 3 → stopped w ≡ true
both_stops w both =
    let lower = eq-eqb (bit 10 w) 1 (omega arith) in
    let upper = eq-eqb (bit 11 w) 1 (omega (arith, above w)) in
    simp (lower, upper)

pub no_both_stops : (w : ℕ) → (w / 1024 % 4 ≡ 3 → ⊥) → stopped w ≡ false
no_both_stops w other = by_tests (eqb (bit 10 w) 1) (eqb (bit 11 w) 1) refl refl
  where
    by_tests : (s t : Bool) → eqb (bit 10 w) 1 ≡ s → eqb (bit 11 w) 1 ≡ t → stopped w ≡ false
    by_tests true true lower upper = absurd (other (two_bits (w / 1024) (eqb-true (bit 10 w) 1 lower) (omega (arith, above w, eqb-true (bit 11 w) 1 upper))))
    by_tests true false lower upper = simp (lower, upper)
    by_tests false t lower upper = simp lower

-- ---- parity

-- the set bits of a number of k bits, counted in k steps
ones_in_lem : (k n : ℕ) → n < 2 ^ k → ones n ≡ ones_in k n
unfolding ones ones_in
ones_in_lem zero n h = let none : n ≡ 0 = omega arith in ap ones none
ones_in_lem (suc k) n h = ones_step n ∙ ap (λ (rest : ℕ). n % 2 + rest) (ones_in_lem k (n / 2) (omega (arith, pow-suc 2 k)))

unfoldable even_told : ℕ → Bool
even_told w = beq (started w && stopped w && even_parity w) (started w && stopped w && eqb (ones_in 12 w % 2) 0)

all_told : every even_told 4096 ≡ true
unfolding even_told ones_in
all_told = refl

parity_counted : (w : ℕ) → w < 4096 → started w ≡ true → stopped w ≡ true → even_parity w ≡ eqb (ones w % 2) 0
unfolding even_told
parity_counted w low start stops =
    let told = same_truth (started w && stopped w && even_parity w) (started w && stopped w && eqb (ones_in 12 w % 2) 0) (swept even_told 4096 all_told w low) in
    let framed : (t : Bool) → (started w && stopped w && t) ≡ t = λ t. simp (start, stops) in
    sym (framed (even_parity w)) ∙ told ∙ framed (eqb (ones_in 12 w % 2) 0) ∙ ap (λ (n : ℕ). eqb (n % 2) 0) (sym (ones_in_lem 12 w low))

-- a word without high bits, with its start and its stops, is left to parity
pub left_to_parity : (w : ℕ) → w / 2 ^ 12 ≡ 0 → bit 0 w ≡ 0 → w / 1024 % 4 ≡ 3 → unless (eqb (ones w % 2) 0) Parity (Ok tt) ≡ checked_of w
unfolding checked_of
left_to_parity w clear start both =
    let high = eq-eqb (w / 2 ^ 12) 0 clear in
    let begun = eq-eqb (bit 0 w) 0 start in
    let stops = both_stops w both in
    let parity = parity_counted w (omega (arith, clear)) begun stops in
    simp (high, begun, stops, parity)
