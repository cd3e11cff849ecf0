-- `are_good_entries` meets its contract: what is left from here decides as the whole does.
use mathlib.Core.Path.{◌≡◌, sym, ap, ◌∙◌}
use Prim.Native.Nat.{ℕ, ◌+◌, ◌<◌}
use native.Mathlib.Omega.{arith}
use lib.ListN.{length, drop, length-drop}
use Rattle.std.proofs.Common.{rules}
use Rattle.ground.proofs.Lists.{part_to_end}
use Rattle.jobs.specs.Check.{size_in, good_entries}
use Rattle.jobs.proofs.Sizes.{field_bounds}
use Rattle.jobs.proofs.GoodEntry.{good}
use Rattle.jobs.proofs.Entries.{good_here, bad_here, no_more_good}
use Rattle.opening.proofs.are_good_entries.Goals as goal

pub returns-then-not-is_good_entry : goal.returns-then-not-is_good_entry
returns-then-not-is_good_entry c =
    let rest = c.loop-rest.rest.now in
    let some : 0 < length rest = search rules in
    sym (sym c.loop-rest.invariant ∙ bad_here c.args.header rest 0 some (sym c.is_good_entry.ensures ∙ c.if-not-is_good_entry.true))

pub slice_bounds-rest-count-in-loop-rest : goal.slice_bounds-rest-count-in-loop-rest
slice_bounds-rest-count-in-loop-rest c =
    let rest = c.loop-rest.rest.now in
    omega (arith, c.size_in.ensures, (good c.args.header rest (sym c.is_good_entry.ensures ∙ c.if-not-is_good_entry.false)).whole)

pub slice_bounds-rest-start-in-loop-rest : goal.slice_bounds-rest-start-in-loop-rest
slice_bounds-rest-start-in-loop-rest c =
    let rest = c.loop-rest.rest.now in
    omega (arith, c.size_in.ensures, (good c.args.header rest (sym c.is_good_entry.ensures ∙ c.if-not-is_good_entry.false)).whole)

pub loop-rest-smaller : goal.loop-rest-smaller
loop-rest-smaller c =
    let rest = c.loop-rest.rest.now in
    let some : 0 < length rest = search rules in
    omega (arith, some, c.size_in.ensures, (field_bounds c.args.header.version).0, ap length (part_to_end rest c.size_in.result), length-drop c.size_in.result rest)

pub loop-rest-preserved : goal.loop-rest-preserved
loop-rest-preserved c =
    let h = c.args.header in
    let rest = c.loop-rest.rest.now in
    let some : 0 < length rest = search rules in
    let is = sym c.is_good_entry.ensures ∙ c.if-not-is_good_entry.false in
    let size : c.size_in.result ≡ 0 + size_in h.version rest = omega (arith, c.size_in.ensures) in
    ap (good_entries h) (part_to_end rest c.size_in.result ∙ ap (λ (k : ℕ). drop k rest) size)
    ∙ sym (good_here h rest 0 some is) ∙ c.loop-rest.invariant

pub returns : goal.returns
returns c =
    let rest = c.loop-rest.rest.now in
    let none : length rest ≡ 0 = search rules in
    sym (sym c.loop-rest.invariant ∙ no_more_good c.args.header rest 0 (omega (arith, none)))
