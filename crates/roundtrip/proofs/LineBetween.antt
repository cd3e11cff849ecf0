-- One device further: device m takes the command as the m devices before it leave it, and hands it on as m + 1 devices leave it, whatever its
-- registers hold; and it changes them as the command asks of it. The whole way is in RoundTrip.
use Rattle.std.specs.Prelude.{None}
use mathlib.Core.Path.{◌≡◌, refl, sym, ap, ◌∙◌}
use mathlib.Core.Bool.{Bool, true, cond}
use mathlib.Core.Logic.{inl, inr, ⊎_elim}
use mathlib.Core.List.{List, [], ◌∷◌, ◌++◌}
use Prim.Native.Nat.{ℕ, suc, ◌+◌, ◌≤◌, ◌<◌}
use native.Mathlib.Numerals.{add-one}
use native.Mathlib.Omega.{arith}
use lib.ListN.{length}
use borrow.Author.Tests.{lt-ltb}
use Rattle.questions.specs.Question.{good_question}
use Rattle.questions.specs.Bytes.{on_wire}
use Rattle.questions.specs.declared.question.Question.{Question}
use Rattle.questions.proofs.ByKind.{each_kind}
use Rattle.questions.proofs.Good.{good_kind}
use Rattle.acceptance.specs.Answer.{Registers, Sendable}
use Rattle.passage.specs.Pass.{change_asked}
use Rattle.twin.specs.Step.{registers_of}
use Rattle.roundtrip.specs.Between.{held, acted, put_in}
use Rattle.roundtrip.proofs.HelloActing.{no_change, hello_on}
use Rattle.roundtrip.proofs.NextLine.{Next, next_acting}
use Rattle.roundtrip.proofs.PutInSoFar.{put_to, acted_at_lem, put_at_lem, covers_at_lem, carried_at, no_registers, registers_at, length_all, all_next, all_registers}
use Rattle.roundtrip.proofs.ToOneDevice.{next_one}

module _ (q : Question) (sends : Sendable q) (n : ℕ) (memory : List ℕ) (words : Registers memory) (good : good_question q ≡ true)
    (chain : 1 ≤ q.kind → q.n ≡ n) (most : n ≤ 32) (m : ℕ) (within : m < n) where
  next_hello : q.kind ≡ 0 → Next q sends n memory words m
  next_hello e =
      let done = hello_on q n m (put_to q n good chain most m within (λ to. absurd (⊎_elim (λ (x : q.kind ≡ 2). omega arith) (λ x. omega arith) to))) e
      (registers_of memory m) (acted q m) (acted q (suc m))
      (on_wire (put_in q m memory)) (on_wire (put_in q (suc m) memory)) in
      record {
        hands = done.hands;
        changes = done.changes ∙ no_change q e ∙ sym (ap (λ (t : Bool). cond t (change_asked q) None) (covers_at_lem q m 0 e));
      }

  next_write_all : q.kind ≡ 1 → Next q sends n memory words m
  next_write_all e =
      let some : 1 ≤ q.kind = omega arith in
      next_acting q sends n memory words m some (registers_at q sends memory words m 1 e no_registers)
      (put_to q n good chain most m within (λ to. absurd (⊎_elim (λ (x : q.kind ≡ 2). omega arith) (λ x. omega arith) to)))
      (ap length (put_at_lem q memory 1 m e) ∙ carried_at q m 1 e)
      (acted_at_lem q 1 (suc m) e ∙ sym (ap (λ (x : ℕ). x + 1) (acted_at_lem q 1 m e) ∙ add-one m))
      (λ reads. absurd (omega arith)) (covers_at_lem q m 1 e ∙ lt-ltb m q.n (omega (arith, chain some)))

  next_read_all : q.kind ≡ 3 → Next q sends n memory words m
  next_read_all e =
      let some : 1 ≤ q.kind = omega arith in
      next_acting q sends n memory words m some (registers_at q sends memory words m 3 e (all_registers q sends memory words m))
      (put_to q n good chain most m within (λ to. absurd (⊎_elim (λ (x : q.kind ≡ 2). omega arith) (λ x. omega arith) to)))
      (ap length (put_at_lem q memory 3 m e) ∙ length_all q memory m ∙ carried_at q m 3 e)
      (acted_at_lem q 3 (suc m) e ∙ sym (ap (λ (x : ℕ). x + 1) (acted_at_lem q 3 m e) ∙ add-one m))
      (λ reads. put_at_lem q memory 3 (suc m) e ∙ all_next q memory m ∙ ap (λ (l : List ℕ). l ++ (held memory m q.reg ∷ [])) (sym (put_at_lem q memory 3 m e)))
      (covers_at_lem q m 3 e ∙ lt-ltb m q.n (omega (arith, chain some)))

  pub next : Next q sends n memory words m
  next =
      each_kind (λ (x : ℕ). q.kind ≡ x → Next q sends n memory words m) next_hello next_write_all
      (λ e. next_one q sends n memory words good chain most m within 2 e (inl refl)) next_read_all
      (λ e. next_one q sends n memory words good chain most m within 4 e (inr refl))
      q.kind (good_kind q good) refl
