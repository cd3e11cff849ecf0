-- `read_passed` meets its contract: the lent part of the array is the line's bytes, all of them.
use mathlib.Core.Path.{◌≡◌, sym, ap, ◌∙◌, subst}
use mathlib.Core.List.{List}
use Prim.Native.Nat.{ℕ}
use native.Mathlib.Omega.{arith}
use lib.ListN.{length, take, drop, replicate, length-replicate, length-append}
use lib.Seq.{length-take-le, take_at}
use Rattle.lines.specs.Write.{at_front}
use Rattle.lines.proofs.Line.{byte_count, all_read}
use Rattle.readings.specs.Reading.{values_taken}
use Rattle.contents.specs.InOrder.{judge_bytes}
use Rattle.judging.proofs.Screening.{passed_is_judged}
use Rattle.reader.specs.Read.{values_in, Carried}
use Rattle.reader.proofs.Passed.{some_words, few_bytes, carried, same_values}
use Rattle.reader.proofs.read.read_passed.Goals as goal

pub overflow_sub-count : goal.overflow_sub-count
overflow_sub-count c =
    let a = c.args in
    omega (arith, some_words a.q a.line.now (length a.out.now) c.requires)

pub slice_bounds-bytes-end : goal.slice_bounds-bytes-end
slice_bounds-bytes-end c =
    let a = c.args in
    omega (arith, few_bytes a.q a.line.now (length a.out.now) c.requires)

pub slice_bounds-read_bytes-end : goal.slice_bounds-read_bytes-end
slice_bounds-read_bytes-end c =
    let a = c.args in
    let few = few_bytes a.q a.line.now (length a.out.now) c.requires in
    sym (length-take-le (byte_count a.line.now) (replicate {A = ℕ} 72 0) (omega (arith, length-replicate {A = ℕ} 72 0, few)))

pub slice_bounds-bytes-end-2 : goal.slice_bounds-bytes-end-2
slice_bounds-bytes-end-2 c =
    let a = c.args in
    let blank = (replicate {A = ℕ} 72 0) in
    let count = byte_count a.line.now in
    let few = few_bytes a.q a.line.now (length a.out.now) c.requires in
    omega (arith, length-append c.read_bytes.new.out (drop count blank), c.read_bytes.auto.out, length-take-le count blank (omega (arith, length-replicate {A = ℕ} 72 0, few)))

pub slice_bounds-read_off-end : goal.slice_bounds-read_off-end
slice_bounds-read_off-end c =
    let a = c.args in
    let blank = (replicate {A = ℕ} 72 0) in
    let count = byte_count a.line.now in
    let few = few_bytes a.q a.line.now (length a.out.now) c.requires in
    let part = c.read_bytes.new.out in
    let size : length part ≡ count = c.read_bytes.auto.out ∙ length-take-le count blank (omega (arith, length-replicate {A = ℕ} 72 0, few)) in
    sym (ap length (take_at part (drop count blank) count size) ∙ size)

pub read_off-requires : goal.read_off-requires
read_off-requires c =
    let a = c.args in
    let blank = (replicate {A = ℕ} 72 0) in
    let line = a.line.now in
    let count = byte_count line in
    let room = length a.out.now in
    let passed = c.requires in
    let part = c.read_bytes.new.out in
    let size = length-take-le count blank (omega (arith, length-replicate {A = ℕ} 72 0, few_bytes a.q line room passed)) in
    let all = take_at part (drop count blank) count (c.read_bytes.auto.out ∙ size) ∙ c.read_bytes.ensures ∙ all_read line (take count blank) size in
    subst (λ (l : List ℕ). Carried l (values_taken (judge_bytes a.q l)) room) (sym all) (carried a.q line room passed)

pub returns : goal.returns
returns c =
    let a = c.args in
    let blank = (replicate {A = ℕ} 72 0) in
    let line = a.line.now in
    let count = byte_count line in
    let out = a.out.now in
    let passed = c.requires in
    let part = c.read_bytes.new.out in
    let size = length-take-le count blank (omega (arith, length-replicate {A = ℕ} 72 0, few_bytes a.q line (length out) passed)) in
    let all = take_at part (drop count blank) count (c.read_bytes.auto.out ∙ size) ∙ c.read_bytes.ensures ∙ all_read line (take count blank) size in
    let done = c.read_off.ensures in
    record {
      says = done.says ∙ ap (judge_bytes a.q) all ∙ passed_is_judged a.q line (length out) passed;
      leaves = done.leaves ∙ ap (λ (l : List ℕ). at_front (values_in l (values_taken (judge_bytes a.q l))) out) all
          ∙ ap (λ (l : List ℕ). at_front l out) (same_values a.q line (length out) passed);
    }
