-- `take_up` meets its contract: the values are gathered behind the own one, and the line held to the command without it.
use Rattle.std.proofs.Common.{◌≡◌, ℕ, suc, ◌-◌, ◌*◌, true, false, List, ◌++◌, length, take, drop, sym, ap, ◌∙◌, arith, length-append}
use Rattle.ground.specs.Same.{same}
use Rattle.ground.proofs.Lists.{part_to_end}
use Rattle.ground.proofs.Sweep.{length_tabulated}
use Rattle.lines.specs.Line.{line_of, byte_at}
use Rattle.writing.specs.PutLine.{out_of}
use Rattle.questions.specs.Bytes.{low_high}
use Rattle.underway.specs.OnTheWay.{on_the_way, wire_of}
use Rattle.underway.proofs.TakingUp.{bounds, impossible, met_by, left_alone, taken_up}
use Rattle.underway.proofs.take_up.Goals as goal

-- behind the own value
behind_own : (own : ℕ) (wire values : List ℕ) → values ≡ low_high own ++ wire → take (length values - 2) (drop 2 values) ≡ wire
behind_own own wire values is = ap (λ (l : List ℕ). take (length l - 2) (drop 2 l)) is ∙ part_to_end (low_high own ++ wire) 2

pub returns-then-not-is_possible : goal.returns-then-not-is_possible
returns-then-not-is_possible c =
    let a = c.args in
    left_alone a.q a.device a.own a.m a.line.now
    (impossible a.q a.device a.own a.m a.line.now (sym c.is_possible.ensures ∙ c.if-not-is_possible.true))

pub gather-gathered-requires : goal.gather-gathered-requires
gather-gathered-requires c =
    let a = c.args in
    (bounds a.q a.device a.m (sym c.is_possible.ensures ∙ c.if-not-is_possible.false)).values

pub invariant_of-is_as_left : goal.invariant_of-is_as_left
invariant_of-is_as_left c =
    let a = c.args in
    let line = a.line.now in
    let b = bounds a.q a.device a.m (sym c.is_possible.ensures ∙ c.if-not-is_possible.false) in
    let part = behind_own a.own (wire_of line a.m) c.as_slice-values.result.now (c.as_slice-values.ensures ∙ c.gather-gathered.ensures) in
    let size = length_tabulated (byte_at line) (2 * a.m) 2 in
    (omega (arith, ap length part, size, b.values), omega (arith, ap length part, size))

pub is_as_left-requires : goal.is_as_left-requires
is_as_left-requires c =
    let a = c.args in
    (bounds a.q a.device a.m (sym c.is_possible.ensures ∙ c.if-not-is_possible.false)).good

pub returns-then-not-is_as_left : goal.returns-then-not-is_as_left
returns-then-not-is_as_left c =
    let a = c.args in
    let line = a.line.now in
    let can = sym c.is_possible.ensures ∙ c.if-not-is_possible.false in
    let part = behind_own a.own (wire_of line a.m) c.as_slice-values.result.now (c.as_slice-values.ensures ∙ c.gather-gathered.ensures) in
    left_alone a.q a.device a.own a.m line (met_by a.q a.device a.own a.m line false can
    (sym (c.is_as_left.ensures ∙ ap (λ (w : List ℕ). same line (line_of (on_the_way a.q a.device 0 w))) part) ∙ c.if-not-is_as_left.true))

pub invariant_of-hand : goal.invariant_of-hand
invariant_of-hand c =
    let a = c.args in
    let line = a.line.now in
    let b = bounds a.q a.device a.m (sym c.is_possible.ensures ∙ c.if-not-is_possible.false) in
    let size = length_tabulated (byte_at line) (2 * a.m) 2 in
    let whole = ap length (c.as_slice-values.ensures ∙ c.gather-gathered.ensures) in
    let own = length-append (low_high a.own) (wire_of line a.m) in
    (omega (arith, whole, own, size, b.values), omega (arith, whole, own, size))

pub hand-requires : goal.hand-requires
hand-requires c =
    let a = c.args in
    let b = bounds a.q a.device a.m (sym c.is_possible.ensures ∙ c.if-not-is_possible.false) in
    (b.good, b.place)

pub returns : goal.returns
returns c =
    let a = c.args in
    let line = a.line.now in
    let can = sym c.is_possible.ensures ∙ c.if-not-is_possible.false in
    let held = c.as_slice-values.ensures ∙ c.gather-gathered.ensures in
    let part = behind_own a.own (wire_of line a.m) c.as_slice-values.result.now held in
    taken_up a.q a.device a.own a.m line _ (met_by a.q a.device a.own a.m line true can
    (sym (c.is_as_left.ensures ∙ ap (λ (w : List ℕ). same line (line_of (on_the_way a.q a.device 0 w))) part) ∙ c.if-not-is_as_left.false))
    (c.hand.ensures ∙ ap (λ (w : List ℕ). out_of (on_the_way a.q (suc a.device) 1 w) line) held)
