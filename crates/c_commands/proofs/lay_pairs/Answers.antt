-- `lay_pairs` meets its contract: the loop keeps so many fill pairs laid from the start on, and all else as it was.
use mathlib.Core.Path.{◌≡◌, refl, ap, ◌∙◌}
use mathlib.Core.List.{List}
use Prim.Native.Nat.{ℕ, ◌+◌, ◌*◌}
use native.Mathlib.Omega.{arith}
use Rattle.lines.specs.Line.{characters_of}
use Rattle.packing.specs.Words.{as_bytes}
use Rattle.questions.specs.Bytes.{fill_pairs}
use Rattle.c_commands.specs.CommandBytes.{laid}
use Rattle.c_commands.proofs.Laid.{pairs_next}
use Rattle.c_commands.proofs.lay_pairs.Goals as goal

pub loop-k-init : goal.loop-k-init
unfolding as_bytes characters_of fill_pairs
loop-k-init c = (refl, refl)

pub loop-k-preserved : goal.loop-k-preserved
loop-k-preserved c =
    let a = c.args in
    let at = c.loop-k in (
      c.lay_pair.ensures
          ∙ ap (λ (l : List ℕ). laid l (a.start + 8 * at.k) (characters_of (fill_pairs 1))) at.invariant.0
          ∙ pairs_next a.out.now a.start at.k,
      c.lay_pair.auto.out ∙ at.invariant.1,
    )

pub shape_of-out : goal.shape_of-out
shape_of-out c = c.loop-k.invariant.1

pub returns : goal.returns
returns c =
    let a = c.args in
    let at = c.loop-k in
    let all : at.k ≡ a.pairs = omega arith in
    at.invariant.0 ∙ ap (λ (k : ℕ). laid a.out.now a.start (characters_of (fill_pairs k))) all
