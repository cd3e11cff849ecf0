-- `register_part` meets its contract: no place, no part; else the four words from the place on, which lie inside the line.
use mathlib.Core.Path.{◌≡◌, sym, ap, ◌∙◌}
use Prim.Native.Nat.{ℕ, ◌+◌, ◌-◌}
use native.Mathlib.Omega.{arith}
use lib.ListN.{take, drop}
use Rattle.parts.proofs.Part.{PlaceAt, place_at, place_none, PartAt, part_at}
use Rattle.parts.proofs.register_part.Goals as goal

pub returns-in_default : goal.returns-in_default
returns-in_default c = place_none c.args.q c.args.line.now c.args.device (sym c.part_start.ensures ∙ c.in_default.is)

-- the place that is found, and the part that stands there
place : (c : goal.In-Some) → PlaceAt c.args.q c.args.line.now c.args.device c.in-Some.start
place c =
    let a = c.args in
    place_at a.q a.line.now a.device c.in-Some.start (sym c.part_start.ensures ∙ c.in-Some.is)

there : (c : goal.In-Some) → PartAt c.args.q c.args.line.now c.args.device
there c =
    let a = c.args in
    part_at a.q a.line.now a.device (place c).some

pub overflow_add-end : goal.overflow_add-end
overflow_add-end c = omega (arith, (place c).is, (there c).near)

pub offset_bounds-line-start : goal.offset_bounds-line-start
offset_bounds-line-start c = omega (arith, (place c).is, (there c).near)

pub slice_bounds-result-end-2 : goal.slice_bounds-result-end-2
slice_bounds-result-end-2 c = omega (arith, (place c).is, (there c).within)

pub returns : goal.returns
returns c =
    let a = c.args in
    let start = c.in-Some.start in
    let at = place_at a.q a.line.now a.device start (sym c.part_start.ensures ∙ c.in-Some.is) in
    let four : start + 4 - start ≡ 4 = omega arith in
    ap (λ (n : ℕ). take n (drop start a.line.now)) four
    ∙ ap (λ (s : ℕ). take 4 (drop s a.line.now)) at.is ∙ (part_at a.q a.line.now a.device at.some).part
