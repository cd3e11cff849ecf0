-- `put_line` meets its contract: the loop keeps the characters of the bytes passed stored behind the preamble, and all else as it was.
use mathlib.Core.Path.{refl, ap, ◌∙◌}
use mathlib.Core.List.{List}
use Prim.Native.Nat.{ℕ, ◌+◌, ◌*◌}
use native.Mathlib.Omega.{arith}
use lib.ListN.{length, get_or, set, length-set}
use lib.Seq.{sets, take_all}
use Rattle.characters.specs.Character.{preamble, stop}
use Rattle.lines.specs.Line.{characters_of}
use Rattle.writing.specs.PutLine.{with_byte}
use Rattle.writing.proofs.Stored.{stored_next, stored_all, refused, written}
use Rattle.writing.proofs.put_line.Goals as goal

pub returns-then-out-bytes : goal.returns-then-out-bytes
returns-then-out-bytes c =
    let a = c.args in
    refused a.bytes.now a.out.now (omega arith)

pub loop-i-init : goal.loop-i-init
unfolding characters_of
loop-i-init c = (omega arith, refl, refl)

pub put_byte-requires : goal.put_byte-requires
put_byte-requires c =
    omega (arith, length-set c.args.out.now 0 preamble)

pub loop-i-preserved : goal.loop-i-preserved
loop-i-preserved c =
    let a = c.args in
    let at = c.loop-i in
    let first = set a.out.now 0 preamble in (
      omega arith,
      c.put_byte.ensures
          ∙ ap (λ (words : List ℕ). with_byte words at.i (get_or a.bytes.now at.i 0)) at.invariant.1
          ∙ stored_next a.bytes.now first at.i c.loop-i-test.true,
      c.put_byte.auto.out ∙ at.invariant.2,
    )

pub offset_bounds-out-end : goal.offset_bounds-out-end
offset_bounds-out-end c = omega (arith, length-set c.args.out.now 0 preamble)

pub bounds-out-end : goal.bounds-out-end
bounds-out-end c = omega (arith, length-set c.args.out.now 0 preamble)

pub shape_of-out : goal.shape_of-out
shape_of-out c = simp length-set (c.loop-i.invariant.2 ∙ simp length-set)

pub returns : goal.returns
returns c =
    let a = c.args in
    let at = c.loop-i in
    let first = set a.out.now 0 preamble in
    written a.bytes.now a.out.now _ _ (omega arith) (omega arith)
    (ap (λ (words : List ℕ). set words (2 * length a.bytes.now + 1) stop)
    (at.invariant.1 ∙ ap (λ (l : List ℕ). sets first 1 (characters_of l)) (take_all at.i a.bytes.now (omega arith)))
    ∙ stored_all a.bytes.now a.out.now (omega arith))
