-- `part_bytes` meets its contract: the line's words stand at the front of the buffer, and a line that the buffer cannot hold has no part.
use mathlib.Core.Path.{refl, sym, ap, ◌∙◌}
use mathlib.Core.List.{List}
use Prim.Native.Nat.{ℕ}
use native.Mathlib.Omega.{arith}
use lib.ListN.{take, length-take, replicate}
use Rattle.parts.specs.Part.{place_found}
use Rattle.c_parts.specs.PartBytes.{packed_start}
use Rattle.c_parts.proofs.Taking.{line_taken, place_most, part_of_taken}
use Rattle.packing.proofs.Taken.{taken_most}
use Rattle.c_parts.proofs.part_bytes.Goals as goal

pub slice_bounds-words-end : goal.slice_bounds-words-end
slice_bounds-words-end c = omega (arith, c.take_line-count.ensures.counts, taken_most 140 c.args.line.now)

pub slice_bounds-part_start-end : goal.slice_bounds-part_start-end
slice_bounds-part_start-end c = simp length-take (omega (arith, c.take_line-count.ensures.counts, taken_most 140 c.args.line.now, c.take_line-count.auto.words))

pub overflow_cast-result : goal.overflow_cast-result
overflow_cast-result c = omega (arith, place_most c.args.q c.args.device (take c.take_line-count.result c.take_line-count.new.words) c.in-Some.start (sym c.part_start.ensures ∙ c.in-Some.is))

pub overflow_mul-result : goal.overflow_mul-result
overflow_mul-result c = omega (arith, place_most c.args.q c.args.device (take c.take_line-count.result c.take_line-count.new.words) c.in-Some.start (sym c.part_start.ensures ∙ c.in-Some.is))

pub overflow_add-result : goal.overflow_add-result
overflow_add-result c = omega (arith, place_most c.args.q c.args.device (take c.take_line-count.result c.take_line-count.new.words) c.in-Some.start (sym c.part_start.ensures ∙ c.in-Some.is))

pub returns-in-Some : goal.returns-in-Some
returns-in-Some c =
    let a = c.args in
    let line = line_taken a.line.now (replicate 140 0) _ c.take_line-count.result c.take_line-count.ensures refl in
    sym (ap packed_start c.in-Some.is) ∙ ap packed_start (c.part_start.ensures ∙ ap (λ (l : List ℕ). place_found a.q l a.device) line)
    ∙ part_of_taken a.q a.device a.line.now

pub returns-in-None : goal.returns-in-None
returns-in-None c =
    let a = c.args in
    let line = line_taken a.line.now (replicate 140 0) _ c.take_line-count.result c.take_line-count.ensures refl in
    sym (ap packed_start c.in-None.is) ∙ ap packed_start (c.part_start.ensures ∙ ap (λ (l : List ℕ). place_found a.q l a.device) line)
    ∙ part_of_taken a.q a.device a.line.now
