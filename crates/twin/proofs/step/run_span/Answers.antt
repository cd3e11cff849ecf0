-- `run_span` meets its contract: the loop keeps the chain as the devices of the span so far have left it.
use native.Mathlib.Omega.{arith}
use mathlib.Core.Path.{◌≡◌, sym, ap, ◌∙◌}
use mathlib.Core.List.{List, ◌++◌}
use Prim.Native.Nat.{ℕ}
use lib.ListN.{length, drop}
use lib.Seq.{drop-append_seam}
use Rattle.twin.specs.Step.{chain_with, hops_from}
use Rattle.twin.proofs.Stepping.{turned_away, no_room, handed_on, hopped_on, hops_length}
use Rattle.twin.proofs.Span.{none_of_span, next_of_span, in_span}
use Rattle.twin.proofs.step.run_span.Goals as goal

pub returns-then-not-is_span : goal.returns-then-not-is_span
returns-then-not-is_span c =
    let a = c.args in
    let s = chain_with a.memory.now a.line.now in
    turned_away _ s (hops_from a.n a.from a.to s) a.out.now (sym c.is_span.ensures ∙ c.if-not-is_span.true)

pub returns-then-out-line : goal.returns-then-out-line
returns-then-out-line c =
    let a = c.args in
    let s = chain_with a.memory.now a.line.now in
    no_room _ s (hops_from a.n a.from a.to s) a.out.now (sym c.is_span.ensures ∙ c.if-not-is_span.false) c.if-out-line.true

pub loop-device-init : goal.loop-device-init
loop-device-init c =
    let a = c.args in
    let line = a.line.now in
    let rest = drop (length line) a.out.now in
    let copied = c.copy.ensures in
    let none = sym (none_of_span a.n (chain_with a.memory.now line) a.from) in (
      ap (λ x. x.memory) none,
      copied ∙ ap (λ (l : List ℕ). line ++ l) (sym (ap (drop (length line)) copied ∙ drop-append_seam line rest)) ∙ ap (λ x. x.line ++ drop (length line) c.copy.new.out) none,
    )

pub loop-device-preserved : goal.loop-device-preserved
loop-device-preserved c =
    let a = c.args in
    let at = c.loop-device in
    let line = a.line.now in
    let s = chain_with a.memory.now line in
    let now_stands = hops_from a.n a.from at.device s in
    let rest = drop (length line) c.copy.new.out in
    let hop = c.hop in
    let done = hopped_on a.n at.device now_stands rest (length line) at.memory hop.new.memory at.out hop.new.out
    (hops_length a.n a.from at.device s) at.invariant.0 at.invariant.1 hop.ensures in
    let next = next_of_span a.n s a.from at.device at.auto.device in (
      done.0 ∙ ap (λ x. x.memory) next,
      done.1 ∙ ap (λ x. x.line ++ rest) next,
    )

pub returns : goal.returns
returns c =
    let a = c.args in
    let at = c.loop-device in
    let line = a.line.now in
    let s = chain_with a.memory.now line in
    let span = in_span a.n a.from a.to (length a.memory.now) (sym c.is_span.ensures ∙ c.if-not-is_span.false) in
    let all : at.device ≡ a.to = omega (arith, span.1) in
    let rest = ap (drop (length line)) c.copy.ensures ∙ drop-append_seam line (drop (length line) a.out.now) in
    handed_on _ s (hops_from a.n a.from a.to s) a.out.now
    (sym c.is_span.ensures ∙ c.if-not-is_span.false) c.if-out-line.false at.out at.memory (hops_length a.n a.from a.to s)
    (at.invariant.1 ∙ ap (λ (l : List ℕ). (hops_from a.n a.from at.device s).line ++ l) rest ∙ ap (λ (k : ℕ). (hops_from a.n a.from k s).line ++ drop (length line) a.out.now) all)
    (at.invariant.0 ∙ ap (λ (k : ℕ). (hops_from a.n a.from k s).memory) all)
