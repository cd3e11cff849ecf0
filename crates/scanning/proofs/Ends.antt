-- Laws of the framing by places: the first and the last word.
use mathlib.Core.Path.{◌≡◌, sym, ap, ◌∙◌}
use mathlib.Core.Bool.{true, ◌&&◌}
use mathlib.Core.List.{List}
use Prim.Native.Nat.{ℕ, ◌-◌}
use lib.Dec.{eqb}
use lib.ListN.{length, get_or}
use borrow.Author.Tests.{eqb-true}
use Rattle.ground.proofs.Test.{and_left, and_right}
use Rattle.characters.specs.Character.{preamble, stop}
use Rattle.lines.proofs.Between.{last_at}
use Rattle.scanning.specs.Frame.{framed}

module _ (line : List ℕ) where
  pub framed_ends : framed line ≡ (eqb (get_or line 0 0) preamble && eqb (get_or line (length line - 1) 0) stop)
  unfolding framed
  framed_ends = ap (λ (w : ℕ). eqb (get_or line 0 0) preamble && eqb w stop) (last_at line)

  module _ (frame : framed line ≡ true) where
    pub first_preamble : get_or line 0 0 ≡ preamble
    unfolding framed
    first_preamble = eqb-true (get_or line 0 0) preamble (and_left _ _ frame)

    pub last_stop : get_or line (length line - 1) 0 ≡ stop
    last_stop = eqb-true (get_or line (length line - 1) 0) stop (and_right (eqb (get_or line 0 0) preamble) _ (sym framed_ends ∙ frame))
