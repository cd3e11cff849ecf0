-- Each device's registers are its own: a step changes those of the device that is stepped, as its rule says, and no other's.
use Rattle.std.specs.Prelude.{Option, Some, None}
use mathlib.Core.Path.{◌≡◌, refl, sym, ap, ◌∙◌}
use mathlib.Core.Bool.{Bool, true, false, cond}
use mathlib.Core.Logic.{⊎_elim}
use mathlib.Core.List.{List}
use Prim.Native.Nat.{ℕ, ◌+◌, ◌-◌, ◌*◌, ◌≤◌, ◌<◌}
use native.Mathlib.Omega.{arith}
use lib.Dec.{eqb}
use lib.ListN.{take, drop, set}
use lib.Seq.{drop-set-lt, drop-set-add, take-set-le, take-set-lt}
use Rattle.ground.proofs.Test.{below_or_not}
use Rattle.lines.proofs.Line.{byte_lt}
use Rattle.questions.specs.declared.question.Question.{Question}
use Rattle.hearing.specs.Hear.{plainly, heard}
use Rattle.passage.specs.Acting.{acts}
use Rattle.passage.specs.Pass.{storing, change_asked, changed, change_of}
use Rattle.hearing.proofs.Hearing.{heard_either}
use Rattle.passage.specs.declared.pass.Store.{Store}
use Rattle.twin.specs.Step.{registers_of, with_change, Chain, hop}

-- a change of a register is one of the 256
pub data InFile : Option Store → Type 0 where
  nothing : InFile None
  store : (s : Store) → s.reg < 256 → InFile (Some s)

module _ (memory : List ℕ) (k : ℕ) where
  own_stored : (r v : ℕ) → r < 256 → registers_of (set memory (256 * k + r) v) k ≡ set (registers_of memory k) r v
  own_stored r v h = ap (take 256) (drop-set-add (256 * k) memory r v) ∙ take-set-lt 256 (drop (256 * k) memory) r v h

  -- the stepped device's registers
  pub own_registers : (c : Option Store) → InFile c → registers_of (with_change memory k c) k ≡ changed (registers_of memory k) c
  own_registers None nothing = refl
  own_registers (Some s) (store _ h) = own_stored s.reg s.value h

  other_stored : (j r v : ℕ) → (j ≡ k → ⊥) → r < 256 → registers_of (set memory (256 * k + r) v) j ≡ registers_of memory j
  other_stored j r v differ h =
      ⊎_elim
      (λ (below : k < j). ap (take 256) (drop-set-lt (256 * j) memory (256 * k + r) v (omega arith)))
      (λ (above : j ≤ k). ⊎_elim
      (λ (lower : j < k).
      let place : 256 * j + (256 * k + r - 256 * j) ≡ 256 * k + r = omega arith in
      ap (λ (i : ℕ). take 256 (drop (256 * j) (set memory i v))) (sym place)
      ∙ ap (take 256) (drop-set-add (256 * j) memory (256 * k + r - 256 * j) v)
      ∙ take-set-le 256 (drop (256 * j) memory) (256 * k + r - 256 * j) v (omega arith))
      (λ (same : k ≤ j). absurd (differ (omega arith))) (below_or_not j k))
      (below_or_not k j)

  -- every other device's
  pub other_registers : (j : ℕ) → (j ≡ k → ⊥) → (c : Option Store) → InFile c → registers_of (with_change memory k c) j ≡ registers_of memory j
  other_registers j differ None nothing = refl
  other_registers j differ (Some s) (store _ h) = other_stored j s.reg s.value differ h

-- ---- the change that a step asks for

either_in_file : (t : Bool) (a b : Option Store) → InFile a → InFile b → InFile (cond t a b)
either_in_file true a b h h' = h
either_in_file false a b h h' = h'

asked_in_file : (q : Question) → q.reg < 256 → InFile (change_asked q)
asked_in_file q h =
    let stored = either_in_file (eqb q.reg 0x00) None (Some (storing q.reg q.value)) nothing (store (storing q.reg q.value) h) in
    either_in_file (eqb q.kind 1) _ _ stored (either_in_file (eqb q.kind 2) _ _ stored nothing)

reg_lt : (n k : ℕ) (line : List ℕ) → (plainly n k line).reg < 256
unfolding plainly
reg_lt n k line = byte_lt line 1

change_in_file : (n k : ℕ) (line : List ℕ) → InFile (change_of n k line)
unfolding change_of
change_in_file n k line =
    either_in_file (acts n k line) _ _ (asked_in_file (heard n k line) (heard_either n k line (λ q. q.reg < 256) (reg_lt n k line) (reg_lt n k line))) nothing

-- ---- a step, by its rule

module _ (n k : ℕ) (s : Chain) where
  -- the device's own registers change as the line asks of it
  pub hop_own : registers_of (hop n k s).memory k ≡ changed (registers_of s.memory k) (change_of n k s.line)
  hop_own = own_registers s.memory k (change_of n k s.line) (change_in_file n k s.line)

  -- and no other device's
  pub hop_other : (j : ℕ) → (j ≡ k → ⊥) → registers_of (hop n k s).memory j ≡ registers_of s.memory j
  hop_other j differ = other_registers s.memory k j differ (change_of n k s.line) (change_in_file n k s.line)
