-- What each register holds after the trip: a write's value in the register of each device that it is put to, register 0x00 excepted; and
-- every other register what it held. Reads and HELLOALL change none.
use Rattle.std.specs.Prelude.{Option, Some, None}
use mathlib.Core.Path.{◌≡◌, refl, sym, ap, ap₂, subst, ◌∙◌}
use mathlib.Core.Bool.{Bool, true, false, cond, ◌&&◌, not, false≢true}
use mathlib.Core.Logic.{◌⊎◌, inl, inr, ⊎_elim}
use mathlib.Core.List.{List}
use Prim.Native.Nat.{ℕ, ◌+◌, ◌*◌, ◌/◌, ◌%◌, ◌≤◌, ◌<◌}
use native.Mathlib.Nat.{eq-zero-or-pos}
use native.Mathlib.Omega.{arith}
use lib.Dec.{eqb, ltb}
use lib.ListN.{length, get_or, drop, set, length-take, length-drop, get_or-eq_default}
use lib.Seq.{get_or-set_same, get_or-set_other, get_or-take, get_or-drop}
use borrow.Author.Tests.{eqb-true, eq-eqb, ne_eqb, lt-ltb}
use Rattle.ground.proofs.Test.{below_or_not}
use Rattle.questions.specs.Question.{by_form, good_question, covers_at, covers}
use Rattle.commands.specs.Command.{command_line}
use Rattle.questions.specs.declared.question.Question.{Question}
use Rattle.questions.proofs.ByKind.{of_hello, of_write, of_read, each_kind}
use Rattle.questions.proofs.Good.{good_kind}
use Rattle.acceptance.specs.Answer.{Registers, Sendable}
use Rattle.passage.specs.Pass.{storing, store_of, change_asked, changed}
use Rattle.passage.specs.declared.pass.Store.{Store}
use Rattle.twin.specs.Step.{registers_of, chain_with, hops}
use Rattle.roundtrip.specs.Between.{held, write_reaches, reaches, ChangedBy, For}
use Rattle.twin.proofs.Stepping.{hops_memory}
use Rattle.roundtrip.proofs.Values.{held_lt}
use Rattle.roundtrip.proofs.PutInSoFar.{covers_at_lem}
use Rattle.roundtrip.proofs.RoundTrip.{registers_after}

-- a register file of 256
pub file_length : (memory : List ℕ) (n k : ℕ) → length memory ≡ 256 * n → k < n → length (registers_of memory k) ≡ 256
file_length memory n k size h = omega (arith, length-take 256 (drop (256 * k) memory), length-drop (256 * k) memory)

-- what a question asks of the registers, by form
write_asks : (q : Question) → 1 ≤ q.kind → q.kind ≤ 2 → change_asked q ≡ store_of q
write_asks q some low =
    ⊎_elim (λ (one : q.kind < 2). let is : q.kind ≡ 1 = omega arith in ap (λ (k : ℕ). cond (eqb k 1) (store_of q) (cond (eqb k 2) (store_of q) None)) is)
    (λ (two : 2 ≤ q.kind). let is : q.kind ≡ 2 = omega arith in ap (λ (k : ℕ). cond (eqb k 1) (store_of q) (cond (eqb k 2) (store_of q) None)) is)
    (below_or_not q.kind 2)

others_ask_nothing : (q : Question) → (q.kind ≡ 1 → ⊥) → (q.kind ≡ 2 → ⊥) → change_asked q ≡ None
others_ask_nothing q not_one not_two =
    ap₂ (λ (t u : Bool). cond t (store_of q) (cond u (store_of q) None)) (ne_eqb q.kind 1 not_one) (ne_eqb q.kind 2 not_two)

module _ (q : Question) (registers : List ℕ) (size : length registers ≡ 256) (small : q.reg < 256) (r : ℕ) where
  abbrev pub after : Option Store → ℕ
  after c = get_or (changed registers c) r 0

  other_kept : (z : Bool) → eqb q.reg 0x00 ≡ z → (r ≡ q.reg → ⊥) → after (store_of q) ≡ get_or registers r 0
  other_kept true e other = ap (λ (t : Bool). after (cond t None (Some (storing q.reg q.value)))) e
  other_kept false e other =
      ap (λ (t : Bool). after (cond t None (Some (storing q.reg q.value)))) e ∙ get_or-set_other registers q.reg r q.value 0 other

  -- a write that is put to the device
  stored : after (store_of q) ≡ cond (eqb r q.reg && not (eqb r 0x00)) q.value (get_or registers r 0)
  stored = by_register (eqb q.reg 0x00) refl (eqb r q.reg) refl
    where
      by_register : (z : Bool) → eqb q.reg 0x00 ≡ z → (t : Bool) → eqb r q.reg ≡ t
          → after (store_of q) ≡ cond (eqb r q.reg && not (eqb r 0x00)) q.value (get_or registers r 0)
      by_register true zero-reg true same =
          let nought : r ≡ 0 = eqb-true r q.reg same ∙ eqb-true q.reg 0 zero-reg in
          ap (λ (t : Bool). after (cond t None (Some (storing q.reg q.value)))) zero-reg
          ∙ sym (ap₂ (λ (t u : Bool). cond (t && not u) q.value (get_or registers r 0)) same (eq-eqb r 0 nought))
      by_register false Some-Reg true same =
          let is : r ≡ q.reg = eqb-true r q.reg same in
          let some : eqb r 0 ≡ false = ap (λ (x : ℕ). eqb x 0) is ∙ Some-Reg in
          ap (λ (t : Bool). after (cond t None (Some (storing q.reg q.value)))) Some-Reg
          ∙ ap (λ (x : ℕ). get_or (set registers q.reg q.value) x 0) is ∙ get_or-set_same registers q.reg q.value 0 (omega arith)
          ∙ sym (ap₂ (λ (t u : Bool). cond (t && not u) q.value (get_or registers r 0)) same some)
      by_register z zero-reg false other =
          other_kept z zero-reg (λ same. false≢true (sym other ∙ eq-eqb r q.reg same))
          ∙ sym (ap (λ (t : Bool). cond (t && not (eqb r 0x00)) q.value (get_or registers r 0)) other)

  -- any question, to a device that it covers or not
  by_change : (k : ℕ) → after (cond (covers q k) (change_asked q) None) ≡ cond (reaches q k r) q.value (get_or registers r 0)
  unfolding reaches
  by_change k =
      ⊎_elim
      (λ (low : q.kind < 3). ⊎_elim
      (λ (e : q.kind ≡ 0). nothing (others_ask_nothing q (λ x. absurd (omega arith)) (λ x. absurd (omega arith))) (of_hello q.kind _ _ _ e))
      (λ (some : 1 ≤ q.kind).
      ap (λ (c : Option Store). after (cond (covers q k) c None)) (write_asks q some (omega arith)) ∙ either (covers q k)
      ∙ sym (ap (λ (t : Bool). cond t q.value (get_or registers r 0)) (of_write q.kind false (write_reaches q k r) false some (omega arith))))
      (eq-zero-or-pos q.kind))
      (λ (reads : 3 ≤ q.kind). nothing (others_ask_nothing q (λ x. absurd (omega arith)) (λ x. absurd (omega arith))) (of_read q.kind _ _ _ reads))
      (below_or_not q.kind 3)
    where
      same_either : (t : Bool) → after (cond t None None) ≡ get_or registers r 0
      same_either true = refl
      same_either false = refl

      nothing : change_asked q ≡ None → by_form q.kind false (write_reaches q k r) false ≡ false
          → after (cond (covers q k) (change_asked q) None) ≡ cond (by_form q.kind false (write_reaches q k r) false) q.value (get_or registers r 0)
      nothing asks none =
          ap (λ (c : Option Store). after (cond (covers q k) c None)) asks ∙ same_either (covers q k)
          ∙ sym (ap (λ (t : Bool). cond t q.value (get_or registers r 0)) none)

      either : (t : Bool) → after (cond t (store_of q) None) ≡ cond (t && eqb r q.reg && not (eqb r 0x00)) q.value (get_or registers r 0)
      either true = stored
      either false = refl

  -- and one that the device acts on
  pub by_rule : (n k : ℕ) → For q n k → after (change_asked q) ≡ cond (reaches q k r) q.value (get_or registers r 0)
  by_rule n k put =
      ap after (each_kind Asked hello (λ e. covered (all 1 e (omega arith) refl)) (λ e. covered (one 2 e (inl e) refl)) (λ e. covered (all 3 e (omega arith) refl))
      (λ e. covered (one 4 e (inr e) refl)) q.kind (good_kind q put.good) refl)
      ∙ by_change k
    where
      Asked : ℕ → Type 0
      Asked x = q.kind ≡ x → change_asked q ≡ cond (covers q k) (change_asked q) None

      covered : covers q k ≡ true → change_asked q ≡ cond (covers q k) (change_asked q) None
      covered e = sym (ap (λ (t : Bool). cond t (change_asked q) None) e)

      all : (x : ℕ) → q.kind ≡ x → 1 ≤ x → covers_at x q k ≡ ltb k q.n → covers q k ≡ true
      all x e some is = covers_at_lem q k x e ∙ is ∙ lt-ltb k q.n (omega (arith, put.chain (omega (arith, e)), put.within))

      one : (x : ℕ) → q.kind ≡ x → (q.kind ≡ 2) ⊎ (q.kind ≡ 4) → covers_at x q k ≡ eqb k q.device → covers q k ≡ true
      one x e named is = covers_at_lem q k x e ∙ is ∙ eq-eqb k q.device (sym (put.to named))

      either : (c : Option Store) (t : Bool) → c ≡ cond t c c
      either c true = refl
      either c false = refl

      hello : q.kind ≡ 0 → change_asked q ≡ cond (covers q k) (change_asked q) None
      hello e =
          let none = others_ask_nothing q (λ x. absurd (omega arith)) (λ x. absurd (omega arith)) in
          none ∙ either None (covers q k) ∙ sym (ap (λ (c : Option Store). cond (covers q k) c None) none)

module _ (q : Question) (good : good_question q ≡ true) (sends : Sendable q) (n : ℕ) (chain : 1 ≤ q.kind → q.n ≡ n) (least : 1 ≤ n) (most : n ≤ 32)
    (memory : List ℕ) (words : Registers memory) (size : length memory ≡ 256 * n) where
  pub held_after : ChangedBy q n memory (hops n n (chain_with memory (command_line q))).memory
  held_after k r h =
      ap (λ (l : List ℕ). get_or l r 0) (registers_after q good sends n chain least most memory words k h)
      ∙ by_change q (registers_of memory k) (file_length memory n k size h) sends.reg r k

  -- every word is still a register's value
  pub still_registers : Registers (hops n n (chain_with memory (command_line q))).memory
  still_registers i =
      let after = (hops n n (chain_with memory (command_line q))).memory in
      let wide : length after ≡ 256 * n = hops_memory n 0 n (chain_with memory (command_line q)) ∙ size in
      let k = i / 256 in
      let r = i % 256 in
      let there : 256 * k + r ≡ i = omega arith in
      ⊎_elim
      (λ (inside : i < 256 * n).
      let same : get_or after i 0 ≡ held after k r =
      sym (get_or-take 256 (drop (256 * k) after) r 0 (omega arith) ∙ get_or-drop (256 * k) after r 0 ∙ ap (λ (j : ℕ). get_or after j 0) there) in
      subst (λ (v : ℕ). v < 65536) (sym (same ∙ held_after k r (omega arith))) (either (reaches q k r) (held memory k r) (held_lt memory words k r (omega arith))))
      (λ (beyond : 256 * n ≤ i). subst (λ (v : ℕ). v < 65536) (sym (get_or-eq_default after 0 (omega (arith, wide)))) (omega arith))
      (below_or_not i (256 * n))
    where
      either : (t : Bool) (v : ℕ) → v < 65536 → cond t q.value v < 65536
      either true v h = sends.value
      either false v h = h
