-- `byte_at` meets its contract: its two words are byte i's, and past the end both read as 0.
use mathlib.Core.Path.{sym, ap₂, ◌∙◌}
use Prim.Native.Nat.{ℕ, ◌+◌, ◌*◌, ◌≤◌}
use native.Mathlib.Omega.{arith}
use lib.ListN.{length, get_or-eq_default}
use Rattle.characters.specs.Nibble.{true_bits}
use Rattle.lines.specs.Line.{byte_at}
use Rattle.lines.proofs.read.byte_at.Goals as goal

pub returns-then-line-i : goal.returns-then-line-i
unfolding byte_at
returns-then-line-i c =
    let a = c.args in
    let l = a.line.now in
    let low : length l ≤ 1 + 2 * a.i = omega arith in
    let high : length l ≤ 2 + 2 * a.i = omega arith in
    sym (ap₂ (λ (x y : ℕ). true_bits x + 16 * true_bits y) (get_or-eq_default l 0 low) (get_or-eq_default l 0 high))

pub returns : goal.returns
unfolding byte_at
returns c = c.two_nibbles.ensures ∙ ap₂ (λ (x y : ℕ). true_bits x + 16 * true_bits y) c.element_or-low.ensures c.element_or-high.ensures
