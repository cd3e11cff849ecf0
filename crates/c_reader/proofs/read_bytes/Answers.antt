-- `read_bytes` meets its contract: the reader is asked of the line's words, with room for as many values as the output holds, 32 at most.
use mathlib.Core.Path.{ap, ◌∙◌}
use mathlib.Core.List.{◌++◌}
use Prim.Native.Nat.{ℕ, ◌/◌}
use native.Mathlib.Omega.{arith}
use lib.ListN.{length, take, drop, replicate, length-append, length-drop, length-replicate, length-take}
use lib.Seq.{sets, length-take-le}
use Rattle.packing.specs.Words.{as_bytes, line_in}
use Rattle.packing.proofs.Taken.{taken_most, line_front}
use Rattle.c_reader.proofs.OnWords.{few_values, read_done}
use Rattle.c_reader.proofs.read_bytes.Goals as goal

pub slice_bounds-words-end : goal.slice_bounds-words-end
slice_bounds-words-end c =
    let blank = (replicate {A = ℕ} 140 0) in
    omega (arith, c.take_line-count.ensures.counts, taken_most (length blank) c.args.line.now, (length-replicate {A = ℕ} 140 0), c.take_line-count.auto.words)

pub slice_bounds-read-end : goal.slice_bounds-read-end
slice_bounds-read-end c =
    let blank = (replicate {A = ℕ} 140 0) in
    simp length-take (omega (arith, c.take_line-count.ensures.counts, taken_most (length blank) c.args.line.now, (length-replicate {A = ℕ} 140 0), c.take_line-count.auto.words))

pub slice_bounds-read-end-2 : goal.slice_bounds-read-end-2
slice_bounds-read-end-2 c = simp length-take (omega (arith, c.min-room.ensures, (length-replicate {A = ℕ} 32 0)))

pub slice_bounds-values-end-2 : goal.slice_bounds-values-end-2
slice_bounds-values-end-2 c =
    let a = c.args in
    let room = c.min-room.result in
    let values = (replicate {A = ℕ} 32 0) in
    let is_room = c.min-room.ensures in
    let is_line = line_front a.line.now ((replicate {A = ℕ} 140 0)) c.take_line-count.new.words c.take_line-count.result c.take_line-count.ensures ∙ ap (λ (n : ℕ). line_in n a.line.now) ((length-replicate {A = ℕ} 140 0)) in
    let size = length-take-le room values (omega (arith, is_room, (length-replicate {A = ℕ} 32 0))) in
    omega (arith, few_values a.q a.line.now a.out.now room is_room (take c.take_line-count.result c.take_line-count.new.words) (take room values) c.read-reading.new.out c.read-reading.result is_line size c.read-reading.ensures, c.values_taken-taken.ensures, is_room, length-append c.read-reading.new.out (drop room values), c.read-reading.auto.out, size, length-drop room values, (length-replicate {A = ℕ} 32 0))

pub slice_bounds-pack-end : goal.slice_bounds-pack-end
slice_bounds-pack-end c =
    let a = c.args in
    let room = c.min-room.result in
    let values = (replicate {A = ℕ} 32 0) in
    let is_room = c.min-room.ensures in
    let is_line = line_front a.line.now ((replicate {A = ℕ} 140 0)) c.take_line-count.new.words c.take_line-count.result c.take_line-count.ensures ∙ ap (λ (n : ℕ). line_in n a.line.now) ((length-replicate {A = ℕ} 140 0)) in
    let size = length-take-le room values (omega (arith, is_room, (length-replicate {A = ℕ} 32 0))) in
    simp length-take (omega (arith, length-append c.read-reading.new.out (drop room values), c.read-reading.auto.out, size, length-drop room values, few_values a.q a.line.now a.out.now room is_room (take c.take_line-count.result c.take_line-count.new.words) (take room values) c.read-reading.new.out c.read-reading.result is_line size c.read-reading.ensures, c.values_taken-taken.ensures, is_room, length-append c.read-reading.new.out (drop room values), c.read-reading.auto.out, size, length-drop room values, (length-replicate {A = ℕ} 32 0)))

pub returns : goal.returns
returns c =
    let a = c.args in
    let room = c.min-room.result in
    let values = (replicate {A = ℕ} 32 0) in
    let is_room = c.min-room.ensures in
    let is_line = line_front a.line.now ((replicate {A = ℕ} 140 0)) c.take_line-count.new.words c.take_line-count.result c.take_line-count.ensures ∙ ap (λ (n : ℕ). line_in n a.line.now) ((length-replicate {A = ℕ} 140 0)) in
    let size = length-take-le room values (omega (arith, is_room, (length-replicate {A = ℕ} 32 0))) in
    read_done a.q a.line.now a.out.now room is_room (take c.take_line-count.result c.take_line-count.new.words) (take room values) c.read-reading.new.out c.read-reading.result is_line size c.read-reading.ensures (drop room values) _ c.packed_reading.result c.read-reading.auto.out
    (c.pack.ensures ∙ ap (λ (m : ℕ). sets a.out.now 0 (as_bytes (take (length a.out.now / 2) (take m (c.read-reading.new.out ++ drop room values))))) c.values_taken-taken.ensures) c.packed_reading.ensures
