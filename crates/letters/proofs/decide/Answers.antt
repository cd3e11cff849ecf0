-- `decide` meets its contract: the letters of the devices passed are decided, the others are still as they stood, and outside of the loop's
-- devices no letter is to be decided.
use mathlib.Core.Path.{◌≡◌, sym, ap, ap₂, ◌∙◌}
use mathlib.Core.List.{List}
use Prim.Native.Nat.{ℕ, ◌≤◌, min, max}
use native.Mathlib.Nat.{le_of_eq}
use native.Mathlib.Omega.{arith}
use lib.ListN.{length-set}
use Rattle.questions.specs.declared.question.Question.{Question}
use Rattle.letters.specs.Letters.{verdict}
use Rattle.letters.specs.Span.{span_of}
use Rattle.std.specs.declared.ops.Range.{Range}
use Rattle.letters.proofs.Between.{from, upto}
use Rattle.letters.proofs.SoFar.{none_yet, one_more, all_decided, none_decided}
use borrow.Author.Rules.{rules}
use Rattle.letters.proofs.decide.Goals as goal

pub returns-then-q-write : goal.returns-then-q-write
returns-then-q-write c =
    let a = c.args in
    let s = a.standing in
    ap (λ (l : List ℕ). record { write = s.write; mask = s.mask; letters = l })
    (none_decided s.write s.mask a.q a.values.now s.letters c.if-q-write.true (search rules))

-- the loop goes over the devices that both cover
starts : (asked written : Range ℕ) (q write : Question) (first : ℕ) → first ≡ max asked.start written.start → asked ≡ span_of q → written ≡ span_of write
    → first ≡ from write q
starts asked written q write first is asks writes = is ∙ ap₂ (λ (s t : Range ℕ). max s.start t.start) asks writes

ends : (asked written : Range ℕ) (q write : Question) (last both : ℕ) → last ≡ min both 32 → both ≡ min asked.end written.end → asked ≡ span_of q
    → written ≡ span_of write → last ≡ upto write q
ends asked written q write last both is meet asks writes =
    is ∙ ap (λ (n : ℕ). min n 32) (meet ∙ ap₂ (λ (s t : Range ℕ). min s.end t.end) asks writes)

pub loop-at-init : goal.loop-at-init
loop-at-init c =
    let a = c.args in
    let write = a.standing.write in
    let first = starts _ _ a.q write c.max-from.result c.max-from.ensures c.span_of-asked.ensures c.span_of-written.ensures in (
      le_of_eq (sym first),
      search (rules, c.well_formed),
      none_yet write a.standing.mask a.q a.values.now a.standing.letters c.max-from.result (le_of_eq first),
    )

pub loop-at-preserved : goal.loop-at-preserved
loop-at-preserved c =
    let a = c.args in
    let s = a.standing in
    let same = c.if-q-write.false in
    let loop = c.loop-at in
    let inv = loop.invariant in
    let last = ends _ _ a.q s.write c.min-end.result c.min.result c.min-end.ensures c.min.ensures c.span_of-asked.ensures c.span_of-written.ensures in (
      omega arith,
      length-set loop.letters loop.at c.verdict_of.result ∙ inv.1,
      one_more s.write s.mask a.q a.values.now s.letters loop.letters loop.at c.verdict_of.result same inv.0 (omega (arith, last))
          inv.1 (c.verdict_of.ensures ∙ ap (λ (value : ℕ). verdict s.mask value s.write.value) c.value_for.ensures) inv.2,
    )

pub returns : goal.returns
returns c =
    let a = c.args in
    let s = a.standing in
    let loop = c.loop-at in
    let first = starts _ _ a.q s.write c.max-from.result c.max-from.ensures c.span_of-asked.ensures c.span_of-written.ensures in
    let last = ends _ _ a.q s.write c.min-end.result c.min.result c.min-end.ensures c.min.ensures c.span_of-asked.ensures c.span_of-written.ensures in
    let past : upto s.write a.q ≤ loop.at = grind (arith, first, last) in
    ap (λ (l : List ℕ). record { write = s.write; mask = s.mask; letters = l })
    (all_decided s.write s.mask a.q a.values.now s.letters loop.letters loop.at past loop.invariant.1 loop.invariant.2)
