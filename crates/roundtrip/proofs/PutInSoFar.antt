-- What m devices have done to a command, by its kind: how many have acted and what values they have put in; and whether device m is to act.
use mathlib.Core.Path.{◌≡◌, sym, ap, ◌∙◌, subst}
use mathlib.Core.Bool.{Bool, true, false, cond}
use mathlib.Core.Logic.{◌⊎◌}
use mathlib.Core.List.{List, [], ◌∷◌, ◌++◌}
use Prim.Native.Nat.{ℕ, suc, ◌≤◌, ◌<◌}
use native.Mathlib.Nat.{zero-add}
use native.Mathlib.Numerals.{add-one}
use lib.Dec.{ltb, lit<}
use lib.ListN.{length}
use Rattle.ground.specs.Sweep.{tabulated}
use Rattle.ground.proofs.Sweep.{length_tabulated}
use Rattle.ground.proofs.Lists.{tabulated_next}
use Rattle.questions.specs.Question.{good_question, covers, covers_at}
use Rattle.questions.specs.declared.question.Question.{Question}
use Rattle.acceptance.specs.Answer.{Registers, Sendable}
use Rattle.hearing.specs.Hear.{carried}
use Rattle.roundtrip.specs.Between.{held, acted_at, acted, put_at, put_in, For}
use Rattle.roundtrip.proofs.Values.{held_lt, tabulated_registers, one_register}

module _ (q : Question) (n : ℕ) (good : good_question q ≡ true) (chain : 1 ≤ q.kind → q.n ≡ n) (most : n ≤ 32) (m : ℕ) (within : m < n) where
  pub put_to : ((q.kind ≡ 2) ⊎ (q.kind ≡ 4) → q.device ≡ m) → For q n m
  put_to to = record { good = good; chain = chain; within = within; most = most; to = to }

module _ (q : Question) where
  pub acted_at_lem : (x i : ℕ) → q.kind ≡ x → acted q i ≡ acted_at x q i
  unfolding acted
  acted_at_lem x i e = ap (λ (k : ℕ). acted_at k q i) e

module _ (q : Question) (m : ℕ) where
  pub covers_at_lem : (x : ℕ) → q.kind ≡ x → covers q m ≡ covers_at x q m
  unfolding covers
  covers_at_lem x e = ap (λ (k : ℕ). covers_at k q m) e

  pub carried_at : (x : ℕ) → q.kind ≡ x → carried x m ≡ carried q.kind m
  carried_at x e = ap (λ (k : ℕ). carried k m) (sym e)

module _ (q : Question) (memory : List ℕ) where
  abbrev pub all_values : ℕ → List ℕ
  all_values i = tabulated (λ (k : ℕ). held memory k q.reg) i 0

  abbrev pub one_value : ℕ → List ℕ
  one_value i = cond (ltb q.device i) (held memory q.device q.reg ∷ []) []

  pub put_at_lem : (x i : ℕ) → q.kind ≡ x → put_in q i memory ≡ put_at x q i memory
  unfolding put_in
  put_at_lem x i e = ap (λ (k : ℕ). put_at k q i memory) e

  pub length_all : (i : ℕ) → length (all_values i) ≡ i
  length_all i = length_tabulated (λ (k : ℕ). held memory k q.reg) i 0

  pub all_next : (i : ℕ) → all_values (suc i) ≡ all_values i ++ (held memory i q.reg ∷ [])
  all_next i =
      let f : ℕ → ℕ = λ k. held memory k q.reg in
      sym (ap (λ (k : ℕ). tabulated f i 0 ++ (f k ∷ [])) (sym (zero-add i)) ∙ tabulated_next f i 0 ∙ ap (λ (k : ℕ). tabulated f k 0) (add-one i))

-- what is put in are registers' values
pub no_registers : Registers []
no_registers i = lit< tt

module _ (q : Question) (sends : Sendable q) (memory : List ℕ) (words : Registers memory) (m : ℕ) where
  pub all_registers : Registers (all_values q memory m)
  all_registers = tabulated_registers (λ (k : ℕ). held memory k q.reg) m (λ k. held_lt memory words k q.reg sends.reg)

  pub one_registers : Registers (one_value q memory m)
  one_registers = either (ltb q.device m)
    where
      either : (t : Bool) → Registers (cond t (held memory q.device q.reg ∷ []) [])
      either true = one_register (held memory q.device q.reg) (held_lt memory words q.device q.reg sends.reg)
      either false = no_registers

  pub registers_at : (x : ℕ) → q.kind ≡ x → Registers (put_at x q m memory) → Registers (put_in q m memory)
  registers_at x e = subst Registers (sym (put_at_lem q memory x m e))
