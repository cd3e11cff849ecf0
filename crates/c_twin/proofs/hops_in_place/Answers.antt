-- `hops_in_place` meets its contract: the loop keeps memory and line as the devices of the span so far have left them.
use mathlib.Core.Path.{sym, ap, ap₂, ◌∙◌}
use mathlib.Core.List.{List}
use Prim.Native.Nat.{ℕ}
use Rattle.packing.specs.Words.{words_of}
use Rattle.twin.specs.Step.{chain_with, hop}
use Rattle.twin.proofs.Span.{none_of_span, next_of_span}
use Rattle.c_twin.proofs.hops_in_place.Goals as goal

pub loop-device-init : goal.loop-device-init
loop-device-init c =
    let a = c.args in
    let none = sym (none_of_span a.span.n (chain_with (words_of a.memory.now) a.line.now) a.span.from) in
    (ap (λ x. x.memory) none, ap (λ x. x.line) none)

pub loop-device-preserved : goal.loop-device-preserved
loop-device-preserved c =
    let a = c.args in
    let at = c.loop-device in
    let s = chain_with (words_of a.memory.now) a.line.now in
    let done = c.hop_in_place in
    let stands = ap₂ (λ (m l : List ℕ). hop a.span.n at.device (chain_with m l)) at.invariant.0 at.invariant.1 ∙ next_of_span a.span.n s a.span.from at.device at.auto.device in (
      done.ensures.remembers ∙ ap (λ x. x.memory) stands,
      done.ensures.leaves ∙ ap (λ x. x.line) stands,
    )
