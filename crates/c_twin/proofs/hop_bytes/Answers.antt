-- `hop_bytes` meets its contract: the devices step on the line's words in place, and these are packed again, as many as there were.
use mathlib.Core.Path.{◌≡◌, sym}
use mathlib.Core.List.{List, ◌++◌}
use Prim.Native.Nat.{ℕ, ◌%◌, ◌≤◌}
use native.Mathlib.Omega.{arith}
use lib.ListN.{length, take, drop, replicate, length-replicate}
use lib.Seq.{length-take-le, length_front}
use Rattle.packing.specs.Words.{LineTaken}
use Rattle.c_twin.proofs.SteppedBytes.{line_count, hopped}
use Rattle.c_twin.proofs.hop_bytes.Goals as goal

-- the line's words are no more than there is room for, before the devices, and after them
module _ (line : List ℕ) (even : length line % 2 ≡ 0) (short : length line ≤ 280) (words : List ℕ) (count : ℕ)
    (taken : LineTaken line (replicate {A = ℕ} 140 0) words count) (room : length words ≡ length (replicate {A = ℕ} 140 0)) where
  few : count ≤ length words
  few =
      let none : length (replicate {A = ℕ} 140 0) ≡ 140 = length-replicate {A = ℕ} 140 0 in
      let counts = line_count line (replicate {A = ℕ} 140 0) even short none words count taken in
      omega (arith, counts, short, room, none)

  still : (handed : List ℕ) → length handed ≡ length (take count words) → count ≤ length (handed ++ drop count words)
  still handed same = omega (arith, few, length_front words handed count same)

pub slice_bounds-words-end : goal.slice_bounds-words-end
slice_bounds-words-end c =
    let take_line = c.take_line-count in
    few c.args.line.now c.requires.1 c.requires.2 take_line.new.words take_line.result take_line.ensures take_line.auto.words

pub slice_bounds-hops_in_place-end : goal.slice_bounds-hops_in_place-end
slice_bounds-hops_in_place-end c =
    let take_line = c.take_line-count in
    sym (length-take-le take_line.result _ (few c.args.line.now c.requires.1 c.requires.2 take_line.new.words take_line.result take_line.ensures take_line.auto.words))

pub slice_bounds-words-end-2 : goal.slice_bounds-words-end-2
slice_bounds-words-end-2 c =
    let take_line = c.take_line-count in
    let hops = c.hops_in_place in
    still c.args.line.now c.requires.1 c.requires.2 take_line.new.words take_line.result take_line.ensures take_line.auto.words hops.new.line hops.auto.line

pub slice_bounds-pack-end : goal.slice_bounds-pack-end
slice_bounds-pack-end c =
    let take_line = c.take_line-count in
    let hops = c.hops_in_place in
    sym (length-take-le take_line.result _
    (still c.args.line.now c.requires.1 c.requires.2 take_line.new.words take_line.result take_line.ensures take_line.auto.words hops.new.line hops.auto.line))

pub returns : goal.returns
returns c =
    let a = c.args in
    let take_line = c.take_line-count in
    let hops = c.hops_in_place in
    hopped a.line.now (replicate {A = ℕ} 140 0) c.requires.1 c.requires.2 (length-replicate {A = ℕ} 140 0) _ take_line.result take_line.ensures
    a.span.n a.span.from a.span.to a.memory.now a.out.now c.requires.0 c.requires.3 take_line.auto.words
    hops.new.memory _ _ (λ i. (c.slice_known-3-1.given i).fits) hops.auto.memory hops.ensures c.pack.ensures
