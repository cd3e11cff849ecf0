-- `asked_byte` meets its contract: each arm is the byte of its place.
use Rattle.std.proofs.Common.{◌≡◌, ℕ, List, sym, ap, ◌∙◌}
use Prim.Native.Nat.{◌/◌, ◌%◌}
use native.Mathlib.Omega.{arith}
use lib.ListN.{get_or}
use Rattle.reasons.specs.Reason.{asked_byte}
use Rattle.reasons.proofs.Told.{the_fourth}
use Rattle.reasons.proofs.asked_byte.Goals as goal

pub returns-in-0 : goal.returns-in-0
returns-in-0 c = c.first_byte.ensures ∙ sym (ap (asked_byte c.args.q) c.in-0.is)

pub returns-in-1 : goal.returns-in-1
returns-in-1 c = c.second_byte.ensures ∙ sym (ap (asked_byte c.args.q) c.in-1.is)

pub returns-in-2 : goal.returns-in-2
returns-in-2 c = ap (λ (l : List ℕ). get_or l 0 0) c.to_le_bytes.ensures ∙ sym (ap (asked_byte c.args.q) c.in-2.is)

pub returns-in_default : goal.returns-in_default
returns-in_default c =
    let rest = c.in_default.in_default-own.rest in
    let high : c.args.q.value / 256 % 256 ≡ c.args.q.value / 256 = omega arith in
    ap (λ (l : List ℕ). get_or l 1 0) c.to_le_bytes.ensures ∙ high ∙ the_fourth c.args.q c.args.i rest.0.0.1 rest.0.1 rest.1
