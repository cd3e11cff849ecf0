-- `hear_entry` meets its contract: the entry's words stand at the front of the buffer, and the reader is asked of them.
use mathlib.Core.Path.{◌≡◌, ap, ◌∙◌}
use Prim.Native.Nat.{ℕ, ◌+◌, ◌-◌, ◌*◌}
use native.Mathlib.Omega.{arith}
use lib.ListN.{length, take, drop, length-take, length-drop}
use lib.Seq.{length-sets}
use Rattle.packing.specs.Words.{words_of}
use Rattle.readings.specs.Reading.{values_taken}
use Rattle.judging.proofs.Accepted.{values_fit}
use Rattle.listening.proofs.OneHeard.{line_read, heard_is}
use Rattle.listening.proofs.hear_entry.Goals as goal

pub slice_bounds-read-end : goal.slice_bounds-read-end
slice_bounds-read-end c =
    let a = c.args in
    let from = a.entry.start in
    let words = words_of (take (from + 2 * a.entry.words - from) (drop from a.front.now)) in
    simp length-take (omega (arith, c.requires.0, ap length c.unpack.ensures, length-sets c.blank-line.result 0 words, c.blank-line.ensures))

pub slice_bounds-values-end : goal.slice_bounds-values-end
slice_bounds-values-end c =
    let a = c.args in
    let fit = values_fit a.entry.question (take a.entry.words c.unpack.new.out) (length c.blank-values.result) in
    omega (arith, c.values_taken-taken.ensures ∙ ap values_taken c.read-reading.ensures.says, fit.0)

pub slice_bounds-hear-end : goal.slice_bounds-hear-end
slice_bounds-hear-end c =
    let a = c.args in
    let fit = values_fit a.entry.question (take a.entry.words c.unpack.new.out) (length c.blank-values.result) in
    simp length-take (omega (arith, c.values_taken-taken.ensures ∙ ap values_taken c.read-reading.ensures.says, fit.0, c.read-reading.auto.out, c.blank-values.ensures))

pub returns : goal.returns
returns c =
    let a = c.args in
    let words = a.entry.words in
    let from = a.entry.start in
    let front = a.front.now in
    let part = take (from + 2 * words - from) (drop from front) in
    let span : from + 2 * words - from ≡ 2 * words = omega arith in
    let even : length part ≡ 2 * words = omega (arith, length-take (from + 2 * words - from) (drop from front), length-drop from front, c.requires.1) in
    let line = ap (take words) c.unpack.ensures ∙ line_read c.blank-line.result part words even (omega (arith, c.requires.0, c.blank-line.ensures))
    ∙ ap (λ (n : ℕ). words_of (take n (drop from front))) span in
    heard_is a.standing c.hear-after.result a.entry.question a.entry.mask (words_of (take (2 * words) (drop from front))) _ c.blank-values.result _ c.read-reading.result c.values_taken-taken.result c.number_of-number.result (from + 2 * words) c.has_values.result
    line c.blank-values.ensures c.read-reading.ensures c.values_taken-taken.ensures c.number_of-number.ensures c.has_values.ensures c.hear-after.ensures
