-- `lay_bytes` meets its contract: the loop keeps the characters of the bytes passed laid behind the preamble, and all else as it was.
use mathlib.Core.Path.{refl, ap, ◌∙◌}
use mathlib.Core.List.{List, [], ◌∷◌}
use Prim.Native.Nat.{ℕ, ◌+◌, ◌*◌}
use native.Mathlib.Omega.{arith}
use lib.ListN.{get_or}
use lib.Seq.{take_all}
use Rattle.lines.specs.Line.{characters_of}
use Rattle.packing.specs.Words.{as_bytes}
use Rattle.c_commands.specs.CommandBytes.{laid}
use Rattle.c_commands.proofs.Laid.{bytes_next}
use Rattle.c_commands.proofs.lay_bytes.Goals as goal

pub loop-i-init : goal.loop-i-init
unfolding as_bytes characters_of
loop-i-init c = (omega arith, refl, refl)

pub loop-i-preserved : goal.loop-i-preserved
loop-i-preserved c =
    let a = c.args in
    let at = c.loop-i in (
      omega arith,
      c.lay_byte.ensures
          ∙ ap (λ (l : List ℕ). laid l (4 * at.i + 2) (characters_of (get_or a.bytes.now at.i 0 ∷ []))) at.invariant.1
          ∙ bytes_next a.out.now a.bytes.now at.i c.loop-i-test.true,
      c.lay_byte.auto.out ∙ at.invariant.2,
    )

pub shape_of-out : goal.shape_of-out
shape_of-out c = c.loop-i.invariant.2

pub returns : goal.returns
returns c =
    let a = c.args in
    let at = c.loop-i in
    at.invariant.1 ∙ ap (λ (l : List ℕ). laid a.out.now 2 (characters_of l)) (take_all at.i a.bytes.now (omega arith))
