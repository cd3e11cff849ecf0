-- `read_bytes` meets its contract: the loop keeps the places passed at the line's bytes, and all else as it was.
use mathlib.Core.Path.{◌≡◌, refl, sym, ap, ◌∙◌, subst⁻¹}
use Prim.Native.Nat.{ℕ, ◌+◌, ◌-◌, ◌*◌, ◌≤◌, min}
use native.Mathlib.Nat.{add-sub_cancel_left}
use native.Mathlib.Omega.{arith}
use mir.Facts.{Fits-le}
use lib.ListN.{length}
use lib.Seq.{sets, length-sets}
use Rattle.ground.specs.Sweep.{tabulated}
use Rattle.ground.proofs.Lists.{filled_room}
use Rattle.lines.specs.Line.{byte_at}
use Rattle.lines.proofs.Line.{byte_count, length_bytes, bytes_by_place}
use Rattle.lines.proofs.Nibbles.{within, put}
use Rattle.lines.proofs.read.read_bytes.Goals as goal

pub loop-k-init : goal.loop-k-init
loop-k-init c =
    let a = c.args in
    (c.min-many.ensures ∙ ap (λ (n : ℕ). min n (length a.out.now)) (c.byte_count.ensures ∙ length_bytes a.line.now), omega arith, refl, refl)

pub slice_bounds-read_part-end : goal.slice_bounds-read_part-end
slice_bounds-read_part-end c =
    let a = c.args in
    let at = c.loop-k in
    omega (arith, (within (length a.out.now) (length a.line.now) c.min-many.result at.k c.min-part.result at.invariant.0 c.loop-k-test.true c.min-part.ensures).3)

pub offset_bounds-line-start : goal.offset_bounds-line-start
offset_bounds-line-start c = record { fits = omega (arith, slice_bounds-read_part-end c, c.well_formed.0.1) }

pub overflow_add-start-in-loop-k : goal.overflow_add-start-in-loop-k
overflow_add-start-in-loop-k c = Fits-le (slice_bounds-read_part-end c) (record { fits = c.well_formed.0.0 })

pub overflow_mul-start : goal.overflow_mul-start
overflow_mul-start c = Fits-le (omega arith) (overflow_add-start-in-loop-k c)

pub overflow_add-start : goal.overflow_add-start
overflow_add-start c = Fits-le (omega arith) (overflow_add-start-in-loop-k c)

pub overflow_mul-part : goal.overflow_mul-part
overflow_mul-part c = Fits-le (omega arith) (overflow_add-start-in-loop-k c)

pub slice_bounds-read_part-end-in-loop-k : goal.slice_bounds-read_part-end-in-loop-k
slice_bounds-read_part-end-in-loop-k c =
    let a = c.args in
    let at = c.loop-k in
    let part = c.min-part in
    subst⁻¹ (λ (n : ℕ). at.k + part.result ≤ n) at.invariant.3
    (within (length a.out.now) (length a.line.now) c.min-many.result at.k part.result at.invariant.0 c.loop-k-test.true part.ensures).2

pub read_part-requires : goal.read_part-requires
read_part-requires c =
    (omega arith, omega (arith, c.min-part.ensures))

pub loop-k-smaller : goal.loop-k-smaller
loop-k-smaller c =
    let a = c.args in
    let at = c.loop-k in
    let many = c.min-many.result in
    let part = c.min-part in
    (within (length a.out.now) (length a.line.now) many at.k part.result at.invariant.0 c.loop-k-test.true part.ensures).0

pub loop-k-preserved : goal.loop-k-preserved
loop-k-preserved c =
    let a = c.args in
    let at = c.loop-k in
    let many = c.min-many.result in
    let part = c.min-part in
    let end : at.k + part.result ≤ length at.out = subst⁻¹ (λ (n : ℕ). at.k + part.result ≤ n) at.invariant.3
    (within (length a.out.now) (length a.line.now) many at.k part.result at.invariant.0 c.loop-k-test.true part.ensures).2 in
    let start = 1 + 2 * at.k in
    let stored = put a.line.now a.out.now at.out c.read_part.new.out at.k part.result
    (start + 2 * part.result - start) (at.k + part.result - at.k) at.invariant.2 end (add-sub_cancel_left start (2 * part.result))
    (add-sub_cancel_left at.k part.result) c.read_part-arg-in-loop-k-1.given.2 c.read_part.ensures in (
      at.invariant.0,
      (within (length a.out.now) (length a.line.now) many at.k part.result at.invariant.0 c.loop-k-test.true part.ensures).1,
      stored,
      ap length stored ∙ length-sets a.out.now 0 (tabulated (byte_at a.line.now) (at.k + part.result) 0),
    )

pub shape_of-out : goal.shape_of-out
shape_of-out c = c.loop-k.invariant.3

pub returns : goal.returns
returns c =
    let a = c.args in
    let at = c.loop-k in
    let all : at.k ≡ min (byte_count a.line.now) (length a.out.now) = omega (arith, at.invariant.0, at.invariant.1, c.loop-k-test.false) in
    at.invariant.2 ∙ ap (λ (n : ℕ). sets a.out.now 0 (tabulated (byte_at a.line.now) n 0)) all
    ∙ filled_room (byte_at a.line.now) a.out.now (byte_count a.line.now) ∙ ap (sets a.out.now 0) (sym (bytes_by_place a.line.now))
