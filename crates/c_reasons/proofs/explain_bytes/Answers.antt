-- `explain_bytes` meets its contract: the words of the line are explained; one that the buffer cannot hold is LENGTH either way.
use mathlib.Core.Path.{ap, ◌∙◌}
use Prim.Native.Nat.{ℕ}
use native.Mathlib.Omega.{arith}
use lib.ListN.{length, replicate, length-replicate, length-take}
use Rattle.packing.specs.Words.{line_in}
use Rattle.packing.proofs.Taken.{taken_most, line_front}
use Rattle.reasons.specs.Reason.{reason_of}
use Rattle.c_reasons.specs.Explain.{in_bytes}
use Rattle.c_reasons.proofs.OnWords.{as_taken}
use Rattle.c_reasons.proofs.explain_bytes.Goals as goal

pub slice_bounds-words-end : goal.slice_bounds-words-end
slice_bounds-words-end c = omega (arith, c.take_line-count.ensures.counts, taken_most 140 c.args.line.now)

pub slice_bounds-explain-end : goal.slice_bounds-explain-end
slice_bounds-explain-end c = simp length-take (omega (arith, c.take_line-count.ensures.counts, taken_most 140 c.args.line.now, c.take_line-count.auto.words))

pub returns : goal.returns
returns c =
    let a = c.args in
    let bytes = a.line.now in
    let taken = c.take_line-count in
    let words = line_front bytes (replicate {A = ℕ} 140 0) _ taken.result taken.ensures ∙ ap (λ (n : ℕ). line_in n bytes) (length-replicate {A = ℕ} 140 0) in
    c.in_bytes.ensures ∙ ap (in_bytes a.q (length bytes)) (c.explain-reason.ensures ∙ ap (reason_of a.q) words) ∙ as_taken a.q bytes
