-- `pec` meets its contract: four bytes brought on and the bytes still to come always have the whole list's PEC.
use mathlib.Core.Path.{refl, ap₂, ◌∙◌}
use mathlib.Core.List.{List, [], ◌∷◌}
use Prim.Native.Nat.{ℕ, ◌+◌, ◌-◌, ◌≤◌}
use native.Mathlib.Omega.{arith}
use lib.Bits.{bit_xor}
use lib.ListN.{length, get_or, drop, length-drop}
use lib.Seq.{take_all}
use Rattle.remainder.specs.Register.{run}
use Rattle.pec.specs.Pec.{byte_step, pec_of}
use Rattle.pec.specs.Moved.{moved}
use Rattle.pec.proofs.Fours.{first_four, next_four}
use Rattle.pec.proofs.pec.Goals as goal

pub take_in_all-requires : goal.take_in_all-requires
take_in_all-requires c = c.remainders-remainders.ensures

pub returns-then-bytes-lt4 : goal.returns-then-bytes-lt4
unfolding pec_of
returns-then-bytes-lt4 c = c.take_in_all.ensures

pub loop-i-init : goal.loop-i-init
loop-i-init c = (omega arith, first_four c.args.bytes.now c.if-bytes-lt4.false)

pub bring_on-a-requires : goal.bring_on-a-requires
bring_on-a-requires c = c.moved_states-moved.ensures

pub bring_on-b-requires : goal.bring_on-b-requires
bring_on-b-requires c = c.moved_states-moved.ensures

pub bring_on-c-requires : goal.bring_on-c-requires
bring_on-c-requires c = c.moved_states-moved.ensures

pub bring_on-d-requires : goal.bring_on-d-requires
bring_on-d-requires c = c.moved_states-moved.ensures

pub loop-i-preserved : goal.loop-i-preserved
loop-i-preserved c =
    let l = c.args.bytes.now in
    let at = c.loop-i in
    let room : at.i + 4 ≤ length l = omega (arith, c.loop-i-test.true, at.invariant.0) in (
      omega arith,
      ap₂ (λ (s : ℕ) (rest : List ℕ). run byte_step s rest)
          (ap₂ (λ (x y : ℕ). run byte_step 0 (x ∷ y ∷ c.bring_on-c.result ∷ c.bring_on-d.result ∷ [])) c.bring_on-a.ensures c.bring_on-b.ensures
          ∙ ap₂ (λ (x y : ℕ). run byte_step 0 (bit_xor (moved at.a) (get_or l at.i 0) ∷ bit_xor (moved at.b) (get_or l (at.i + 1) 0) ∷ x ∷ y ∷ [])) c.bring_on-c.ensures c.bring_on-d.ensures)
          refl
          ∙ next_four at.a at.b at.c at.d l at.i room
          ∙ at.invariant.1,
    )

pub take_in_all-folded-requires : goal.take_in_all-folded-requires
take_in_all-folded-requires c = c.remainders-remainders.ensures

pub take_in_all-requires-2 : goal.take_in_all-requires-2
take_in_all-requires-2 c = c.remainders-remainders.ensures

pub returns : goal.returns
returns c =
    let l = c.args.bytes.now in
    let at = c.loop-i in
    c.take_in_all-2.ensures
    ∙ ap₂ (λ (s : ℕ) (rest : List ℕ). run byte_step s rest) c.take_in_all-folded.ensures (take_all (length l - at.i) (drop at.i l) (omega (arith, length-drop at.i l))) ∙ at.invariant.1
