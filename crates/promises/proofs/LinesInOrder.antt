-- The printed lines: those of the letters that stand are, device by device, those that are deserved, and lines that are the same one by one make the
-- same text.
use mathlib.Core.Path.{◌≡◌, refl, sym, ap, ap₂, ◌∙◌}
use mathlib.Core.Bool.{Bool, true, false, cond, false≢true}
use mathlib.Core.List.{List, [], ◌++◌}
use Prim.Native.Nat.{ℕ, zero, suc, ◌<◌}
use native.Mathlib.Omega.{arith}
use lib.Dec.{ltb}
use lib.ListN.{get_or}
use borrow.Author.Tests.{lt-ltb, ltb-true, ltb-false}
use Rattle.questions.specs.Question.{covers}
use Rattle.letters.specs.Letters.{Heard, standing_after}
use Rattle.letters.specs.Meaning.{shown_masked}
use Rattle.letters.specs.declared.Standing.{Standing}
use Rattle.letters.proofs.Meaning.{given_is_deserved, deserved_is_given}
use Rattle.printing.specs.Text.{device_line, device_line_if, first_lines}
use Rattle.promises.specs.Certificate.{DeviceLine, lettered, none}
use Rattle.promises.proofs.OwnLetter.{deserving_below}

pub lines_alike : (f g : ℕ → List ℕ) (k : ℕ) → ((j : ℕ) → j < k → f j ≡ g j) → first_lines f k ≡ first_lines g k
unfolding first_lines
lines_alike f g zero same = refl
lines_alike f g (suc k) same = ap₂ (λ (x y : List ℕ). x ++ y) (lines_alike f g k (λ j below. same j (omega arith))) (same k (omega arith))

-- the lines of the letters that stand, and none past device 31
abbrev pub standing_line : Standing → (a : ℕ) → List ℕ
standing_line s a = cond (ltb a 32) (device_line_if s.write a (get_or s.letters a 0)) []

pub line_standing : (s : Standing) (a : ℕ) → a < 32 → device_line_if s.write a (get_or s.letters a 0) ≡ standing_line s a
line_standing s a below = ap (λ (t : Bool). cond t (device_line_if s.write a (get_or s.letters a 0)) []) (sym (lt-ltb a 32 below))

pub line_deserved : (xs : List Heard) (a : ℕ) → DeviceLine shown_masked xs a (standing_line (standing_after xs) a)
line_deserved xs a = by_tests (ltb a 32) refl (covers (standing_after xs).write a) refl
  where
    by_tests : (t : Bool) → ltb a 32 ≡ t → (u : Bool) → covers (standing_after xs).write a ≡ u
        → DeviceLine shown_masked xs a (cond t (cond u (device_line a (get_or (standing_after xs).letters a 0)) []) [])
    by_tests true below true covered =
        lettered (get_or (standing_after xs).letters a 0)
        (given_is_deserved xs a (get_or (standing_after xs).letters a 0) (ltb-true a 32 below) (record { covered = covered; stands = refl }))
    by_tests true below false off = none (λ v due. false≢true (sym off ∙ (deserved_is_given xs a v (deserving_below due) due).covered))
    by_tests false above u e = none (λ v due. omega (arith, ltb-false a 32 above, deserving_below due))
