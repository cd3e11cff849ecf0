-- `check` meets its contract: each `return` is the test that those before it lead to.
use mathlib.Core.Path.{◌≡◌, sym, ap, ◌∙◌}
use mathlib.Core.Bool.{Bool, true, false}
use Prim.Native.Nat.{ℕ, ◌%◌, ◌/◌, ◌^◌}
use native.Mathlib.Omega.{arith}
use lib.Count.{ones}
use lib.Dec.{eqb}
use borrow.Author.Tests.{eq-eqb, ne_eqb}
use Rattle.characters.specs.Character.{bit}
use Rattle.character_check.specs.Fault.{unless, checked_of}
use Rattle.character_check.specs.declared.Fault.TheVariants.{Parity}
use Rattle.std.specs.Prelude.{Ok}
use Rattle.character_check.proofs.Parity.{no_both_stops, left_to_parity}
use Rattle.character_check.proofs.check.Goals as goal

pub returns-then-w-ne0 : goal.returns-then-w-ne0
unfolding checked_of
returns-then-w-ne0 c =
    let given = ne_eqb (c.args.w / 2 ^ 12) 0 (λ clear. c.if-w-ne0.true (omega (arith, clear))) in
    simp given

pub returns-then-w-ne0-2 : goal.returns-then-w-ne0-2
unfolding checked_of
returns-then-w-ne0-2 c =
    let w = c.args.w in
    let clear = eq-eqb (w / 2 ^ 12) 0 (omega (arith, c.if-w-ne0.false)) in
    let given = ne_eqb (bit 0 w) 0 (λ start. c.if-w-ne0-2.true (omega (arith, start))) in
    simp (clear, given)

pub returns-then-w-ne3 : goal.returns-then-w-ne3
unfolding checked_of
returns-then-w-ne3 c =
    let w = c.args.w in
    let clear = eq-eqb (w / 2 ^ 12) 0 (omega (arith, c.if-w-ne0.false)) in
    let start = eq-eqb (bit 0 w) 0 (omega (arith, c.if-w-ne0-2.false)) in
    let given = no_both_stops w (λ both. c.if-w-ne3.true (omega (arith, both))) in
    simp (clear, start, given)

-- what the tests before it leave to the last
to_the_last : (w : ℕ) (even : Bool) → w / 4096 ≡ 0 → w % 2 ≡ 0 → w / 1024 % 4 ≡ 3 → eqb (ones w % 2) 0 ≡ even
    → unless even Parity (Ok tt) ≡ checked_of w
to_the_last w even clear start both is =
    ap (λ (t : Bool). unless t Parity (Ok tt)) (sym is) ∙ left_to_parity w (omega (arith, clear)) (omega (arith, start)) both

pub returns-then-w-ne0-3 : goal.returns-then-w-ne0-3
returns-then-w-ne0-3 c =
    let w = c.args.w in
    to_the_last w false (omega arith) (omega arith) (omega arith) (ne_eqb (ones w % 2) 0 (λ even. c.if-w-ne0-3.true (omega (arith, even))))

pub returns : goal.returns
returns c =
    let w = c.args.w in
    to_the_last w true (omega arith) (omega arith) (omega arith) (eq-eqb (ones w % 2) 0 (omega (arith, c.if-w-ne0-3.false)))
