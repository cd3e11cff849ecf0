-- Laws of the number due: it is one number, of rows with small numbers a small one, and a call whose checks, in their order, are given where the rows are says its number.
use mathlib.Core.Path.{◌≡◌, refl, sym, ◌∙◌}
use mathlib.Core.Bool.{Bool, true, false}
use mathlib.Core.Logic.{inl, inr}
use mathlib.Core.List.{List, [], ◌∷◌}
use Prim.Native.Nat.{ℕ, ◌<◌}
use native.Mathlib.Omega.{arith}
use Rattle.std.specs.Prelude.{Option, Some, None, Result, Ok, Err}
use Rattle.readings.specs.Reading.{refusal_number, number_of}
use Rattle.readings.specs.FirstFault.{Said, given_unless, first_fault, said}
use Rattle.readings.specs.declared.Refusal.{Refusal}
use Rattle.readings.specs.declared.Taken.{Taken}
use Rattle.judging.specs.Judge.{given_at}
use Rattle.promises.specs.ByNumber.{Row, row, NumberDue}

-- two numbers that are due are the same
pub one_due : (rows : List Row) {m n : ℕ} → NumberDue rows m → NumberDue rows n → m ≡ n
one_due [] due due' = due ∙ sym due'
one_due (row number given ∷ rows) (inl g) (inl h) = g.1 ∙ sym h.1
one_due (row number given ∷ rows) (inl g) (inr f) = absurd (f.0 g.0)
one_due (row number given ∷ rows) (inr e) (inl h) = absurd (e.0 h.0)
one_due (row number given ∷ rows) (inr e) (inr f) = one_due rows e.1 f.1

-- rows whose numbers are below 256, and so the one that is due
abbrev pub Small : List Row → Type 0
Small [] = Unit
Small (row number given ∷ rows) = (number < 256) × Small rows

pub below_256 : (rows : List Row) (number : ℕ) → Small rows → NumberDue rows number → number < 256
below_256 [] due small is = omega (arith, is)
below_256 (row number given ∷ rows) due small (inl is) = omega (arith, small.0, is.1)
below_256 (row number given ∷ rows) due small (inr is) = below_256 rows due small.1 is.1

-- ---- a check that is given exactly where a row is

abbrev pub Says : Row → Said → Type 0
Says (row number given) (Ok pass) = given → ⊥
Says (row number given) (Err why) = (refusal_number why ≡ number) × given

pub asks : (number : ℕ) (given : Type 0) (why : Refusal) (t : Bool) → refusal_number why ≡ number → (t ≡ false → given) → (t ≡ true → given → ⊥)
    → Says (row number given) (given_unless why t)
asks number given why true same fails passes = passes refl
asks number given why false same fails passes = (same, fails refl)

pub looks : (number : ℕ) (given : Type 0) (why : ℕ → Refusal) (p : Option ℕ) → ((i : ℕ) → refusal_number (why i) ≡ number)
    → ((i : ℕ) → p ≡ Some i → given) → (p ≡ None → given → ⊥) → Says (row number given) (given_at why p)
looks number given why (Some i) same fails passes = (same i, fails i refl)
looks number given why None same fails passes = passes refl

-- ---- checks and rows, one by one

pub data Alike : List Row → List Said → Type 1 where
  end : Alike [] []
  next : {r : Row} {s : Said} {rows : List Row} {checks : List Said} → Says r s → Alike rows checks → Alike (r ∷ rows) (s ∷ checks)

pub first_given : (rows : List Row) (checks : List Said) → Alike rows checks → (taken : Result Taken Refusal) → number_of taken ≡ 0
    → NumberDue rows (number_of (said (first_fault checks) taken))
first_given [] [] end taken zero = zero
first_given [] (check ∷ checks) alike taken zero = elim alike [ ]
first_given (row number given ∷ rows) [] alike taken zero = elim alike [ ]
first_given (row number given ∷ rows) (Ok pass ∷ checks) (next says others) taken zero = inr (says, first_given rows checks others taken zero)
first_given (row number given ∷ rows) (Err why ∷ checks) (next says others) taken zero = inl (says.1, says.0)
