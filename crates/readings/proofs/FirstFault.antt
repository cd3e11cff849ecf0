-- Laws of the first row that is given: where it is none, every row has passed; and some rows followed by others say what the first ones say, or
-- else what the others say.
use mathlib.Core.Path.{◌≡◌, refl}
use mathlib.Core.Bool.{Bool, true, false}
use mathlib.Core.List.{List, [], ◌∷◌, ◌++◌}
use Prim.Native.Nat.{ℕ, zero, suc}
use native.Mathlib.Omega.{arith}
use lib.ListN.{get_or}
use Rattle.readings.specs.Reading.{refusal_number, number_of}
use Rattle.std.specs.Prelude.{Result, Ok, Err}
use Rattle.readings.specs.FirstFault.{Said, given_unless, first_fault, said}
use Rattle.readings.specs.declared.Refusal.{Refusal}
use Rattle.readings.specs.declared.Refusal.TheVariants.{Question, Room, Length, Character, Frame, Manchester, Echo, Pec, Alive, Check, Count}
use Rattle.readings.specs.declared.Taken.{Taken}

-- ---- where an answer passes

-- each row has passed, by its place in the list
pub each_passed : (rows : List Said) → first_fault rows ≡ Ok tt → (k : ℕ) → get_or rows k (Ok tt) ≡ Ok tt
each_passed [] e k = refl
each_passed (Ok pass ∷ rows) e zero = refl
each_passed (Ok pass ∷ rows) e (suc k) = each_passed rows e k
each_passed (Err why ∷ rows) e k = absurd (let z : ◌≡◌ {A = ℕ} 0 1 = cc in omega arith)

-- and what a row asks for is so
pub asked_is_so : (why : Refusal) (t : Bool) → given_unless why t ≡ Ok tt → t ≡ true
asked_is_so why true e = refl
asked_is_so why false e = absurd (let z : ◌≡◌ {A = ℕ} 0 1 = cc in omega arith)

-- ---- what holds of every row, and of passing, holds of the first that is given

pub data Each (P : Said → Type 0) : List Said → Type 0 where
  none : Each P []
  next : {s : Said} {rows : List Said} → P s → Each P rows → Each P (s ∷ rows)

pub first_of_each : (P : Said → Type 0) → P (Ok tt) → (rows : List Said) → Each P rows → P (first_fault rows)
first_of_each P passed [] none = passed
first_of_each P passed (Ok pass ∷ rows) (next row later) = first_of_each P passed rows later
first_of_each P passed (Err why ∷ rows) (next row later) = row

-- ---- some rows, then others

pub said_joined : (rows others : List Said) (taken : Result Taken Refusal)
    → said (first_fault (rows ++ others)) taken ≡ said (first_fault rows) (said (first_fault others) taken)
said_joined [] others taken = refl
said_joined (Ok pass ∷ rows) others taken = said_joined rows others taken
said_joined (Err why ∷ rows) others taken = refl

-- ---- what is said

-- no row has the number 0
pub no_row_is_zero : (why : Refusal) → refusal_number why ≡ 0 → ⊥
no_row_is_zero Question e = omega arith
no_row_is_zero Room e = omega arith
no_row_is_zero Length e = omega arith
no_row_is_zero (Character i) e = omega arith
no_row_is_zero Frame e = omega arith
no_row_is_zero (Manchester i) e = omega arith
no_row_is_zero Echo e = omega arith
no_row_is_zero Pec e = omega arith
no_row_is_zero Alive e = omega arith
no_row_is_zero (Check b) e = omega arith
no_row_is_zero (Count b) e = omega arith

-- so an answer that is accepted passed
pub accepted_passed : (s : Said) (taken : Result Taken Refusal) → number_of (said s taken) ≡ 0 → s ≡ Ok tt
accepted_passed (Ok pass) taken e = refl
accepted_passed (Err why) taken e = absurd (no_row_is_zero why e)
