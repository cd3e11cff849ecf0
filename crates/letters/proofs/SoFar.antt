-- The devices decided so far: below a place each has its letter after the read, and from there on the letters are as they stood.
use mathlib.Core.Path.{◌≡◌, refl, sym, ap, ◌∙◌}
use mathlib.Core.Bool.{false}
use mathlib.Core.Logic.{⊎_elim}
use mathlib.Core.List.{List}
use Prim.Native.Nat.{ℕ, ◌+◌, ◌≤◌, ◌<◌}
use native.Mathlib.Nat.{zero-add}
use native.Mathlib.Omega.{arith}
use lib.ListN.{length, get_or, set}
use lib.Seq.{get_or-set_same, get_or-set_other, ext_get_or}
use borrow.Author.Tests.{ne_eqb}
use Rattle.ground.specs.Sweep.{tabulated}
use Rattle.ground.proofs.Sweep.{tabulated_at, length_tabulated, tabulated_same}
use Rattle.ground.proofs.Lists.{tabulated_own}
use Rattle.ground.proofs.Test.{below_or_not, refuted}
use Rattle.questions.specs.declared.question.Question.{Question}
use Rattle.letters.specs.Letters.{value_for, decides, verdict, letter_after}
use Rattle.letters.proofs.Between.{from, upto, decides_between, decides_only_between}

module _ (write : Question) (mask : ℕ) (q : Question) (values old : List ℕ) where
  -- the letters by their rule, from those that stood
  abbrev rule : ℕ → ℕ
  rule a = letter_after write mask q a values (get_or old a 0)

  -- a device that the read does not decide keeps its letter
  keeps : (a : ℕ) → decides write q a ≡ false → rule a ≡ get_or old a 0
  unfolding letter_after
  keeps a e = simp e

  -- so does one that not both cover
  keeps_outside : (a : ℕ) → a < 32 → (from write q ≤ a → a < upto write q → ⊥) → rule a ≡ get_or old a 0
  keeps_outside a h apart =
      keeps a (refuted (decides write q a) (λ d. let both = decides_only_between write q a h d in apart both.0 both.1))

  abbrev pub SoFar : (letters : List ℕ) → (at : ℕ) → Type 0
  SoFar letters at = (a : ℕ) → a < 32 → (a < at → get_or letters a 0 ≡ rule a) × (at ≤ a → get_or letters a 0 ≡ get_or old a 0)

  -- no device before the first that both cover is decided
  pub none_yet : (at : ℕ) → at ≤ from write q → SoFar old at
  none_yet at early a h =
      (λ below. sym (keeps_outside a h (λ low high. omega arith)), λ above. refl)

  pub one_more : (letters : List ℕ) (at letter : ℕ) → q.reg ≡ write.reg → from write q ≤ at → at < upto write q → length letters ≡ 32
      → letter ≡ verdict mask (value_for q at values) write.value → SoFar letters at → SoFar (set letters at letter) (at + 1)
  unfolding letter_after
  one_more letters at letter same low high long is so_far a h = (
    λ below. ⊎_elim (λ lower. other (λ e. omega arith) ∙ (so_far a h).0 lower) (λ reached. here (omega arith)) (below_or_not a at),
    λ above. other (λ e. omega arith) ∙ (so_far a h).1 (omega arith),
  )
    where
      other : (a ≡ at → ⊥) → get_or (set letters at letter) a 0 ≡ get_or letters a 0
      other apart = get_or-set_other letters at a letter 0 apart

      here : a ≡ at → get_or (set letters at letter) a 0 ≡ rule a
      here e =
          ap (λ (k : ℕ). get_or (set letters at letter) k 0) e ∙ get_or-set_same letters at letter 0 (omega arith) ∙ is
          ∙ sym (ap rule e ∙ simp (decides_between write q at same low high))

  -- behind the last that both cover none is decided
  pub all_decided : (letters : List ℕ) (at : ℕ) → upto write q ≤ at → length letters ≡ 32 → SoFar letters at → letters ≡ tabulated rule 32 0
  all_decided letters at past long so_far =
      ext_get_or 0 letters (tabulated rule 32 0) (long ∙ sym (length_tabulated rule 32 0))
      (λ a h. let low : a < 32 = omega arith in each a low ∙ sym (tabulated_at rule 32 0 a low ∙ ap rule (zero-add a)))
    where
      each : (a : ℕ) → a < 32 → get_or letters a 0 ≡ rule a
      each a h =
          ⊎_elim (λ below. (so_far a h).0 below) (λ above. (so_far a h).1 above ∙ sym (keeps_outside a h (λ low high. omega arith)))
          (below_or_not a at)

  -- a read of another register decides nothing
  pub none_decided : (q.reg ≡ write.reg → ⊥) → length old ≡ 32 → old ≡ tabulated rule 32 0
  unfolding decides
  none_decided other long =
      sym (tabulated_same rule (λ (a : ℕ). get_or old a 0) 32 0 (λ a h. keeps a (simp (ne_eqb _ _ other)))
      ∙ ap (λ (n : ℕ). tabulated (λ (a : ℕ). get_or old a 0) n 0) (sym long) ∙ tabulated_own old)
