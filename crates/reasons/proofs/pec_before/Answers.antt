-- `pec_before` meets its contract: what is left to take in, taken in from here, gives the PEC of them all.
use Rattle.std.proofs.Common.{◌≡◌, ℕ, suc, ◌+◌, ◌-◌, ◌<◌, ◌≤◌, List, sym, ap, ◌∙◌, arith}
use Rattle.ground.specs.Sweep.{tabulated}
use Rattle.remainder.specs.Register.{run}
use Rattle.pec.specs.Pec.{byte_step, pec_of}
use Rattle.lines.specs.Line.{byte_at}
use Rattle.reasons.proofs.pec_before.Invariants.{left}
use Rattle.reasons.proofs.pec_before.Goals as goal

module _ (line : List ℕ) where
  all_left : (end : ℕ) → left line 0 (end - 0) 0 ≡ pec_of (tabulated (byte_at line) end 0)
  unfolding left pec_of
  all_left end = let is : end - 0 ≡ end = omega arith in ap (λ (n : ℕ). run byte_step 0 (tabulated (byte_at line) n 0)) is

  one_taken : (i end crc crc' : ℕ) → i < end → crc' ≡ byte_step crc (byte_at line i) → left line (i + 1) (end - (i + 1)) crc' ≡ left line i (end - i) crc
  unfolding left run
  one_taken i end crc crc' below is =
      let on : i + 1 ≡ suc i = omega arith in
      let rest : end - i ≡ suc (end - (i + 1)) = omega arith in
      ap (λ (x : ℕ). run byte_step x (tabulated (byte_at line) (end - (i + 1)) (i + 1))) is
      ∙ ap (λ (k : ℕ). run byte_step (byte_step crc (byte_at line i)) (tabulated (byte_at line) (end - (i + 1)) k)) on
      ∙ sym (ap (λ (n : ℕ). run byte_step crc (tabulated (byte_at line) n i)) rest)

  none_left : (i end crc : ℕ) → end ≤ i → left line i (end - i) crc ≡ crc
  unfolding left run
  none_left i end crc past = let none : end - i ≡ 0 = omega arith in ap (λ (n : ℕ). run byte_step crc (tabulated (byte_at line) n i)) none

pub loop-i-init : goal.loop-i-init
loop-i-init c = all_left c.args.line.now c.args.end

pub loop-i-preserved : goal.loop-i-preserved
loop-i-preserved c =
    let a = c.args in
    let at = c.loop-i in
    let byte = ap (byte_step at.crc) c.byte_at.ensures in
    one_taken a.line.now at.i a.end at.crc c.step-crc.result c.loop-i-test.true (c.step-crc.ensures ∙ byte) ∙ at.invariant

pub returns : goal.returns
returns c =
    let a = c.args in
    let at = c.loop-i in
    sym (none_left a.line.now at.i a.end at.crc c.loop-i-test.false) ∙ at.invariant
