-- Devices stepped: what each way through the calls leaves.
use Rattle.std.specs.Prelude.{Option, Some, None, Result, Ok, Err, ⊤}
use mathlib.Core.Path.{◌≡◌, refl, sym, ap, ap₂, ◌∙◌}
use mathlib.Core.Bool.{Bool, true, false, cond}
use mathlib.Core.List.{List, ◌++◌}
use Prim.Native.Nat.{ℕ, zero, suc, ◌+◌, ◌*◌, ◌≤◌, ◌<◌}
use lib.Dec.{leb}
use lib.ListN.{length, take, drop, length-set}
use lib.Seq.{take_at, drop_at}
use borrow.Author.Tests.{le-leb, lt-leb}
use Rattle.lines.specs.Write.{at_front, left_by}
use Rattle.passage.specs.Acting.{acts}
use Rattle.passage.specs.Pass.{change_of}
use Rattle.passage.specs.declared.pass.Store.{Store}
use Rattle.passage.proofs.ActedLength.{long_unacted}
use Rattle.passage.proofs.EqualLength.{length_handed}
use Rattle.passage.proofs.Passing.{left_unchanged, nothing_stored}
use Rattle.twin.specs.Step.{registers_of, with_change, Chain, chain_with, hop, hops_from, Hopped, stepped_of, stepped_number, Done}
use Rattle.twin.specs.declared.step.StepRefusal.{StepRefusal}
use Rattle.twin.specs.declared.step.StepRefusal.TheVariants.{Twin, Room}

-- ---- the three answers

module _ (fits : Bool) (before after : Chain) (out : List ℕ) where
  stepped_by : (t u : Bool) → fits ≡ t → leb (length before.line) (length out) ≡ u → stepped_of fits before.line out ≡ cond t (cond u (Ok tt) (Err Room)) (Err Twin)
  unfolding stepped_of
  stepped_by t u e f = ap₂ (λ (t u : Bool). cond t (cond u (Ok tt) (Err Room)) (Err Twin)) e f

  -- what is left, by the answer
  out_by : (s : Result ⊤ StepRefusal) → stepped_of fits before.line out ≡ s
      → left_by (stepped_number (stepped_of fits before.line out)) (at_front after.line out) out ≡ left_by (stepped_number s) (at_front after.line out) out
  out_by s is = ap (λ (s : Result ⊤ StepRefusal). left_by (stepped_number s) (at_front after.line out) out) is

  memory_by : (s : Result ⊤ StepRefusal) → stepped_of fits before.line out ≡ s
      → left_by (stepped_number (stepped_of fits before.line out)) after.memory before.memory ≡ left_by (stepped_number s) after.memory before.memory
  memory_by s is = ap (λ (s : Result ⊤ StepRefusal). left_by (stepped_number s) after.memory before.memory) is

  pub turned_away : fits ≡ false → Done fits before after out out before.memory (Err Twin)
  turned_away e =
      let is = stepped_by false (leb (length before.line) (length out)) e refl in
      record { says = sym is; leaves = sym (out_by (Err Twin) is); remembers = sym (memory_by (Err Twin) is) }

  pub no_room : fits ≡ true → length out < length before.line → Done fits before after out out before.memory (Err Room)
  no_room e short =
      let is = stepped_by true false e (lt-leb (length before.line) (length out) short) in
      record { says = sym is; leaves = sym (out_by (Err Room) is); remembers = sym (memory_by (Err Room) is) }

  module _ (good : fits ≡ true) (room : length before.line ≤ length out) where
    handed : stepped_of fits before.line out ≡ Ok tt
    handed = stepped_by true true good (le-leb (length before.line) (length out) room)

    pub handed_on : (out_after memory : List ℕ) → length after.line ≡ length before.line
        → out_after ≡ after.line ++ drop (length before.line) out → memory ≡ after.memory → Done fits before after out out_after memory (Ok tt)
    handed_on out_after memory size leaves remembers =
        record {
          says = sym handed;
          leaves = leaves ∙ ap (λ (k : ℕ). after.line ++ drop k out) (sym size) ∙ sym (out_by (Ok tt) handed);
          remembers = remembers ∙ sym (memory_by (Ok tt) handed);
        }

-- ---- a call that fits and has room

module _ (before after : Chain) (out out_after memory_left : List ℕ) (r : Result ⊤ StepRefusal) (fits : Bool) (done : Done fits before after out out_after memory_left r)
    (good : fits ≡ true) (room : length before.line ≤ length out) where
  pub says_handed : r ≡ Ok tt
  says_handed = done.says ∙ handed fits before after out good room

  pub leaves_line : out_after ≡ at_front after.line out
  leaves_line = done.leaves ∙ out_by fits before after out (Ok tt) (handed fits before after out good room)

  pub leaves_memory : memory_left ≡ after.memory
  leaves_memory = done.remembers ∙ memory_by fits before after out (Ok tt) (handed fits before after out good room)

-- ---- a hop on words that hold the line in front

module _ (n k : ℕ) (s : Chain) (rest : List ℕ) where
  pub hopped_on : (words : ℕ) (memory memory_left out out_after : List ℕ) → length s.line ≡ words → memory ≡ s.memory → out ≡ s.line ++ rest
      → Hopped n k words memory memory_left out out_after → (memory_left ≡ (hop n k s).memory) × (out_after ≡ (hop n k s).line ++ rest)
  hopped_on words memory memory_left out out_after size holds front done =
      let line : take words out ≡ s.line = ap (take words) front ∙ take_at s.line rest words size in
      let behind : drop words out ≡ rest = ap (drop words) front ∙ drop_at s.line rest words size in (
        done.remembers ∙ ap₂ (λ (m l : List ℕ). (hop n k (chain_with m l)).memory) holds line,
        done.leaves ∙ ap₂ (λ (x y : List ℕ). x ++ y) (ap₂ (λ (m l : List ℕ). (hop n k (chain_with m l)).line) holds line) behind,
      )

-- a device that does not act hands on the line as it came, and changes no register
pub hop_unacted : (n k : ℕ) (s : Chain) → acts n k s.line ≡ false → hop n k s ≡ s
hop_unacted n k s e =
    ap₂ chain_with (ap (with_change s.memory k) (nothing_stored n k (registers_of s.memory k) s.line e))
    (left_unchanged n k (registers_of s.memory k) s.line e)

-- so a line longer than any command passes unchanged
pub hop_long : (n k : ℕ) (s : Chain) → 140 < length s.line → hop n k s ≡ s
hop_long n k s long = hop_unacted n k s (long_unacted n k s.line long)

-- no device changes the length of the line
pub hop_length : (n k : ℕ) (s : Chain) → length (hop n k s).line ≡ length s.line
hop_length n k s = length_handed n k s.line (registers_of s.memory k)

-- what both ways of a test have
either : (P : Chain → Type 0) (t : Bool) (x y : Chain) → P x → P y → P (cond t x y)
either P true x y p q = p
either P false x y p q = q

pub hops_length : (n from to : ℕ) (s : Chain) → length (hops_from n from to s).line ≡ length s.line
unfolding hops_from
hops_length n from zero s = refl
hops_length n from (suc k) s =
    let before = hops_from n from k s in
    either (λ (x : Chain). length x.line ≡ length s.line) (leb from k) (hop n k before) s (hop_length n k before ∙ hops_length n from k s) refl

-- and no device changes how many registers there are
with_change_length : (memory : List ℕ) (k : ℕ) (c : Option Store) → length (with_change memory k c) ≡ length memory
with_change_length memory k None = refl
with_change_length memory k (Some s) = length-set memory (256 * k + s.reg) s.value

pub hops_memory : (n from to : ℕ) (s : Chain) → length (hops_from n from to s).memory ≡ length s.memory
unfolding hops_from
hops_memory n from zero s = refl
hops_memory n from (suc k) s =
    let before = hops_from n from k s in
    either (λ (x : Chain). length x.memory ≡ length s.memory) (leb from k) (hop n k before) s
    (with_change_length before.memory k (change_of n k before.line) ∙ hops_memory n from k s) refl
