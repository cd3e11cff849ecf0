-- One device further with a command that is put to one device: that device acts, and every other lets it pass.
use mathlib.Core.Path.{◌≡◌, refl, sym, ap, ◌∙◌}
use mathlib.Core.Bool.{Bool, true, false, cond, false≢true}
use mathlib.Core.Logic.{◌⊎◌, inl, inr, ⊎_elim}
use mathlib.Core.List.{List}
use Prim.Native.Nat.{ℕ, suc, ◌+◌, ◌*◌, ◌≤◌, ◌<◌}
use native.Mathlib.Omega.{arith}
use lib.Dec.{ltb, eqb}
use lib.ListN.{length}
use borrow.Author.Tests.{eqb-true, eq-eqb, ne_eqb, lt-ltb, le-ltb}
use Rattle.lines.specs.Line.{byte_at}
use Rattle.questions.specs.Question.{good_question}
use Rattle.questions.specs.Bytes.{on_wire}
use Rattle.questions.specs.declared.question.Question.{Question}
use Rattle.acceptance.specs.Answer.{Registers, Sendable}
use Rattle.questions.proofs.Wire.{length_wire}
use Rattle.acceptance.proofs.Wire.{wire_bytes}
use Rattle.hearing.specs.Hear.{carried}
use Rattle.roundtrip.specs.Between.{acted, put_at, put_in, line_between}
use Rattle.roundtrip.proofs.BytesBetween.{first_byte}
use Rattle.roundtrip.proofs.AnothersCommand.{for_another}
use Rattle.roundtrip.proofs.NextLine.{Next, next_acting, next_passing}
use Rattle.roundtrip.proofs.PutInSoFar.{put_to, carried_at, no_registers, registers_at, one_registers}
use Rattle.roundtrip.proofs.NamedDevice.{some_one, by_two, acted_one, same_put, covers_one, put_nothing, put_one, room, command_byte, unmoved}

module _ (q : Question) (sends : Sendable q) (n : ℕ) (memory : List ℕ) (words : Registers memory) (good : good_question q ≡ true)
    (chain : 1 ≤ q.kind → q.n ≡ n) (most : n ≤ 32) (m : ℕ) (within : m < n) (x : ℕ) (e : q.kind ≡ x) (which : (x ≡ 2) ⊎ (x ≡ 4)) where
  registers_one : Registers (put_in q m memory)
  registers_one = registers_at q sends memory words m x e (by_two q memory m x e which (λ (y : ℕ). Registers (put_at y q m memory)) no_registers (one_registers q sends memory words m))

  first_here : (byte_at (line_between q m memory) 0 ≡ q.device * 8 + 4) ⊎ (byte_at (line_between q m memory) 0 ≡ q.device * 8 + 5)
  first_here =
      let first = first_byte q good sends m (acted q m) (on_wire (put_in q m memory)) (wire_bytes (put_in q m memory) registers_one) (length (put_in q m memory))
      (length_wire (put_in q m memory)) (some_one q memory m x e which) (room q memory m x e which) in
      ⊎_elim (λ is. inl (first ∙ is)) (λ is. inr (first ∙ is)) (command_byte q memory m x e which)

  -- the device that it is put to
  next_this : q.device ≡ m → Next q sends n memory words m
  next_this is =
      let none : ltb q.device m ≡ false = le-ltb q.device m (omega arith) in
      let one : ltb q.device (suc m) ≡ true = lt-ltb q.device (suc m) (omega arith) in
      next_acting q sends n memory words m (some_one q memory m x e which) registers_one (put_to q n good chain most m within (λ to. is))
      (ap length (put_nothing q memory m x e which none) ∙ by_two q memory m x e which (λ (y : ℕ). 0 ≡ carried y m) refl refl ∙ carried_at q m x e)
      (acted_one q memory m x e which (suc m) ∙ ap (λ (t : Bool). cond t 1 0) one ∙ sym (ap (λ (k : ℕ). k + 1) (acted_one q memory m x e which m ∙ ap (λ (t : Bool). cond t 1 0) none)))
      (λ reads. put_one q memory m x e which reads none one is)
      (covers_one q memory m x e which ∙ eq-eqb m q.device (sym is))

  -- every other
  next_other : (q.device ≡ m → ⊥) → Next q sends n memory words m
  next_other differ =
      let later : ltb q.device (suc m) ≡ ltb q.device m = unmoved q memory m x e which differ in
      next_passing q sends n memory words m (some_one q memory m x e which) registers_one (for_another n m q.device (line_between q m memory) first_here differ)
      (acted_one q memory m x e which (suc m) ∙ ap (λ (t : Bool). cond t 1 0) later ∙ sym (acted_one q memory m x e which m)) (same_put q memory m x e which (suc m) m later)
      (covers_one q memory m x e which ∙ ne_eqb m q.device (λ same. differ (sym same)))

  pub next_one : Next q sends n memory words m
  next_one = by_test (eqb q.device m) refl
    where
      by_test : (t : Bool) → eqb q.device m ≡ t → Next q sends n memory words m
      by_test true is = next_this (eqb-true q.device m is)
      by_test false is = next_other (λ same. false≢true (sym is ∙ eq-eqb q.device m same))
