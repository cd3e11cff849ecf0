-- `pass_nibbles` meets its contract: no place so far fails, and a block that passes adds none.
use mathlib.Core.Path.{sym, ◌∙◌}
use Prim.Native.Nat.{◌+◌, ◌≤◌}
use native.Mathlib.Omega.{arith}
use Rattle.characters.specs.Nibble.{is_nibble}
use Rattle.scanning.proofs.FirstPlace.{scan_done, block_on}
use Rattle.scanning.proofs.pass_nibbles.Goals as goal

pub loop-i-init : goal.loop-i-init
loop-i-init c =
    let a = c.args in
    (omega arith, c.requires.0, scan_done is_nibble a.line.now a.from a.from (omega arith))

pub are_nibbles-requires : goal.are_nibbles-requires
are_nibbles-requires c = omega (arith, c.requires.1, c.loop-i.invariant.1, c.loop-i-test.true)

pub returns-then-not-are_nibbles : goal.returns-then-not-are_nibbles
returns-then-not-are_nibbles c = c.loop-i.invariant

pub overflow_add-i-in-loop-i : goal.overflow_add-i-in-loop-i
overflow_add-i-in-loop-i c = omega (arith, c.loop-i.invariant.1, c.loop-i-test.true)

pub loop-i-smaller : goal.loop-i-smaller
loop-i-smaller c = omega (arith, c.loop-i.invariant.1, c.loop-i-test.true)

pub loop-i-preserved : goal.loop-i-preserved
loop-i-preserved c =
    let a = c.args in
    let at = c.loop-i in
    let room : at.i + 16 ≤ a.to = omega (arith, at.invariant.1, c.loop-i-test.true) in
    let passed = sym c.are_nibbles.ensures ∙ c.if-not-are_nibbles.false in
    (omega (arith, at.invariant.0), room, block_on is_nibble a.line.now a.from at.i 16 at.invariant.0 at.invariant.2 passed)

pub returns : goal.returns
returns c = c.loop-i.invariant
