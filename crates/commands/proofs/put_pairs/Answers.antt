-- `put_pairs` meets its contract: the loop keeps so many fill pairs stored from the start on, and all else as it was.
use mathlib.Core.Path.{◌≡◌, refl, ap, ◌∙◌}
use mathlib.Core.List.{List}
use Prim.Native.Nat.{ℕ, ◌+◌, ◌*◌}
use native.Mathlib.Omega.{arith}
use lib.Seq.{sets}
use Rattle.lines.specs.Line.{characters_of}
use Rattle.questions.specs.Bytes.{fill_pairs}
use Rattle.commands.proofs.Filled.{pairs_next}
use Rattle.commands.proofs.put_pairs.Goals as goal

pub loop-k-init : goal.loop-k-init
unfolding characters_of fill_pairs
loop-k-init c = (refl, refl)

pub loop-k-preserved : goal.loop-k-preserved
loop-k-preserved c =
    let a = c.args in
    let at = c.loop-k in (
      c.put_pair.ensures
          ∙ ap (λ (words : List ℕ). sets words (a.start + 4 * at.k) (characters_of (fill_pairs 1))) at.invariant.0
          ∙ pairs_next a.out.now a.start at.k,
      c.put_pair.auto.out ∙ at.invariant.1,
    )

pub shape_of-out : goal.shape_of-out
shape_of-out c = c.loop-k.invariant.1

pub returns : goal.returns
returns c =
    let a = c.args in
    let at = c.loop-k in
    let all : at.k ≡ a.pairs = omega arith in
    at.invariant.0 ∙ ap (λ (k : ℕ). sets a.out.now a.start (characters_of (fill_pairs k))) all
