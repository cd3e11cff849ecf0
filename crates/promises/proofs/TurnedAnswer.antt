-- A register's bits turned over, and with them the PEC's that make it right again: the answer's line with that damage is another answer's line.
use mathlib.Core.Path.{◌≡◌, refl, sym, ap, ap₂, ◌∙◌}
use mathlib.Core.Bool.{Bool, true, cond, ◌&&◌}
use mathlib.Core.List.{List, [], ◌∷◌, ◌++◌}
use Prim.Native.Nat.{ℕ, zero, suc, ◌+◌, ◌*◌, ◌≤◌, ◌<◌}
use native.Mathlib.Omega.{arith}
use lib.Bits.{bit_xor, xor_zero_l, xor_zero_r}
use lib.Dec.{eqb, leb, lit<}
use lib.ListN.{length, length-append, replicate, length-replicate, set}
use borrow.Author.Tests.{le-leb, eq-eqb, ne_eqb}
use Rattle.ground.specs.Sweep.{tabulated}
use Rattle.ground.proofs.Sweep.{length_tabulated}
use Rattle.remainder.specs.Register.{run}
use Rattle.remainder.specs.Turned.{turned, Bytes}
use Rattle.remainder.proofs.Linear.{run_linear}
use Rattle.remainder.proofs.Turned.{length_turned}
use Rattle.pec.specs.Pec.{byte_step, pec_of}
use Rattle.pec.proofs.Byte.{byte_linear, run_lt}
use Rattle.lines.specs.Line.{line_of}
use Rattle.lines.proofs.Line.{length_line}
use Rattle.questions.specs.Question.{asking, read_all, good_chain, good_question}
use Rattle.questions.specs.Shape.{shape_of}
use Rattle.questions.specs.Bytes.{on_wire, alive_byte, sealed, read_covered, answer_bytes}
use Rattle.questions.specs.declared.question.Question.{Question}
use Rattle.questions.proofs.Good.{good_alive}
use Rattle.acceptance.specs.Answer.{Registers}
use Rattle.acceptance.proofs.Wire.{bytes_append, bytes_cons}
use Rattle.acceptance.proofs.Sealed.{length_sealed}
use Rattle.promises.specs.Demand3.{ReadsAll, answer_line}
use Rattle.promises.specs.WhereItEnds.{damage}
use Rattle.promises.proofs.Apart.{asks_all, varied, length_varied, varied_bytes, start, answer, answer_are_bytes}
use Rattle.promises.proofs.MasksOnWire.{turned_append, varied_turned, turned_back, turned_registers, device_registers}
use Rattle.promises.proofs.MasksOnLine.{on_line, length_on_line, line_turned, no_mask}

-- one mask a device: the named bits of one device's register, and nothing of the others'
abbrev pub in_device : (n device bits : ℕ) → List ℕ
in_device n device bits = tabulated (λ k. cond (eqb k device) bits 0) n 0

-- the damage, from the masks on: those bits, and their own remainder
unfoldable pub masks_for : (n alive device bits : ℕ) → List ℕ
masks_for n alive device bits =
    on_line
    (0 ∷ 0 ∷ ((on_wire (in_device n device bits) ++ (0 ∷ []))
    ++ (run byte_step 0 (on_wire (in_device n device bits) ++ (0 ∷ [])) ∷ replicate alive 0)))

module _ (q : Question) (values : List ℕ) (all : ReadsAll q values) (device bits : ℕ) (small : bits < 65536) where
  unfoldable pub mask : List ℕ
  mask = in_device q.n device bits

  unfoldable pub others : List ℕ
  others = turned values mask

  pub same : length values ≡ length mask
  unfolding mask
  same = all.number ∙ sym (length_tabulated (λ k. cond (eqb k device) bits 0) q.n 0)

  mask_registers : Registers mask
  unfolding mask
  mask_registers = device_registers q.n device bits 0 small

  pub others_read : ReadsAll q others
  unfolding others
  others_read = record {
    kind = all.kind;
    good = all.good;
    sends = all.sends;
    number = length_turned values mask ∙ all.number;
    registers = turned_registers values mask all.registers mask_registers;
  }

  -- the answer's bytes with the masks on them are the other answer's bytes
  behind : List ℕ
  behind = run byte_step 0 (varied mask) ∷ replicate q.alive 0

  bytes_turned : turned (sealed q (shape_of q).acting (read_covered q values 0)) (0 ∷ 0 ∷ (varied mask ++ behind))
      ≡ sealed q (shape_of q).acting (read_covered q others 0)
  unfolding sealed turned behind others pec_of run start
  bytes_turned =
      let alive = alive_byte q (shape_of q).acting in
      let begun = start q (asks_all q values all) in
      let size : length (varied values) ≡ length (varied mask) = omega (arith, length_varied values, length_varied mask, same) in
      let pec : bit_xor (run byte_step begun (varied values)) (run byte_step 0 (varied mask)) ≡ run byte_step begun (varied others) =
      sym (run_linear byte_step byte_linear begun 0 (varied values) (varied mask) size)
      ∙ ap₂ (λ (c : ℕ) (l : List ℕ). run byte_step c l) (xor_zero_r begun) (sym (varied_turned values mask same)) in
      ap₂ (λ (x y : ℕ). x ∷ y ∷ turned (varied values ++ (pec_of (read_covered q values 0) ∷ alive)) (varied mask ++ behind))
      (xor_zero_r (shape_of q).first) (xor_zero_r q.reg)
      ∙ ap (λ (l : List ℕ). (shape_of q).first ∷ q.reg ∷ l)
      (turned_append (varied values) (pec_of (read_covered q values 0) ∷ alive) (varied mask) behind size
      ∙ ap₂ (λ (x y : List ℕ). x ++ y) (sym (varied_turned values mask same))
      (ap₂ (λ (x : ℕ) (l : List ℕ). x ∷ l) pec (no_mask alive q.alive)))

  masks_are_bytes : Bytes (0 ∷ 0 ∷ (varied mask ++ behind))
  unfolding behind
  masks_are_bytes =
      let wire = varied_bytes mask mask_registers in
      bytes_cons 0 (0 ∷ (varied mask ++ behind)) (lit< tt)
      (bytes_cons 0 (varied mask ++ behind) (lit< tt)
      (bytes_append (varied mask) behind wire
      (bytes_cons (run byte_step 0 (varied mask)) (replicate q.alive 0) (run_lt 0 (varied mask) (lit< tt) wire) (zeros q.alive))))
    where
      zeros : (n : ℕ) → Bytes (replicate n 0)
      zeros zero i = lit< tt
      zeros (suc n) zero = lit< tt
      zeros (suc n) (suc i) = zeros n i

  masks_long : length (sealed q (shape_of q).acting (read_covered q values 0)) ≡ length (0 ∷ 0 ∷ (varied mask ++ behind))
  unfolding behind
  masks_long =
      omega (
        arith,
        length_sealed q (shape_of q).acting (good_alive q all.good) (read_covered q values 0),
        length-append (varied mask) behind,
        length-replicate {A = ℕ} q.alive 0,
        length_varied values,
        length_varied mask,
        same,
      )

  pub line_is_turned : turned (answer_line q values) (masks_for q.n q.alive device bits) ≡ answer_line q others
  unfolding masks_for mask behind
  line_is_turned =
      ap (λ (l : List ℕ). turned (line_of l) (masks_for q.n q.alive device bits)) (answer q (asks_all q values all) values)
      ∙ line_turned _ _ masks_long (answer_are_bytes q (asks_all q values all) values all.registers) masks_are_bytes ∙ ap line_of bytes_turned
      ∙ ap line_of (sym (answer q (asks_all q values all) others))

  pub masks_on_line : length (masks_for q.n q.alive device bits) ≡ length (answer_line q values)
  unfolding masks_for mask behind
  masks_on_line =
      length_on_line _ ∙ ap (λ (k : ℕ). 2 * k + 2) (sym masks_long ∙ sym (ap length (answer q (asks_all q values all) values)))
      ∙ sym (length_line (answer_bytes q values 0))

-- ---- the damage is the same on every answer, and so that on an answer of zeros

beyond : (n i device bits : ℕ) → device < i → turned (replicate n 0) (tabulated (λ k. cond (eqb k device) bits 0) n i) ≡ replicate n 0
unfolding turned
beyond zero i device bits less = refl
beyond (suc n) i device bits less =
    ap₂ (λ (x : ℕ) (l : List ℕ). x ∷ l) (ap (λ (t : Bool). bit_xor 0 (cond t bits 0)) (ne_eqb i device (λ same. omega arith)) ∙ xor_zero_r 0)
    (beyond n (suc i) device bits (omega arith))

one_set : (n i j device bits : ℕ) → device ≡ i + j
    → turned (replicate n 0) (tabulated (λ k. cond (eqb k device) bits 0) n i) ≡ set (replicate n 0) j bits
unfolding turned
one_set zero i j device bits e = refl
one_set (suc n) i zero device bits e =
    ap₂ (λ (x : ℕ) (l : List ℕ). x ∷ l) (ap (λ (t : Bool). bit_xor 0 (cond t bits 0)) (eq-eqb i device (omega arith)) ∙ xor_zero_l bits)
    (beyond n (suc i) device bits (omega arith))
one_set (suc n) i (suc j) device bits e =
    ap₂ (λ (x : ℕ) (l : List ℕ). x ∷ l) (ap (λ (t : Bool). bit_xor 0 (cond t bits 0)) (ne_eqb i device (λ same. omega arith)) ∙ xor_zero_r 0)
    (one_set n (suc i) j device bits (omega arith))

module _ (n alive device bits : ℕ) (least : 1 ≤ n) (most : n ≤ 32) (on : alive ≤ 1) (small : bits < 65536) where
  abbrev asks : Question
  asks = asking read_all n alive 0 0 0 0

  good : good_question asks ≡ true
  unfolding good_question good_chain
  good =
      ap (λ (t : Bool). t && ((leb 1 n && leb n 32) && true)) (le-leb alive 1 on)
      ∙ ap₂ (λ (t u : Bool). (t && u) && true) (le-leb 1 n least) (le-leb n 32 most)

  zero_registers : (k : ℕ) → Registers (replicate k 0)
  zero_registers zero i = lit< tt
  zero_registers (suc k) zero = lit< tt
  zero_registers (suc k) (suc i) = zero_registers k i

  zeros : ReadsAll asks (replicate n 0)
  zeros = record {
    kind = refl;
    good = good;
    sends = record { reg = lit< tt; value = lit< tt };
    number = length-replicate {A = ℕ} n 0;
    registers = zero_registers n;
  }

  pub damage_is : damage n alive device bits ≡ masks_for n alive device bits
  unfolding damage others mask
  damage_is =
      let line = answer_line asks (replicate n 0) in
      ap (turned line) (ap (answer_line asks) (sym (one_set n 0 device device bits (omega arith))) ∙ sym (line_is_turned asks (replicate n 0) zeros device bits small))
      ∙ turned_back line (masks_for n alive device bits) (sym (masks_on_line asks (replicate n 0) zeros device bits small))
