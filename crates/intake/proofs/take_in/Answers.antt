-- What one more read gave stands behind what was taken in before.
use Rattle.std.proofs.Common.{◌≡◌, ℕ, List, ◌+◌, ◌++◌, arith, take, drop, ap, sym, subst, ◌∙◌}
use Rattle.std.proofs.Math.Seq.{take-add}
use Rattle.std.specs.Io.KnownBytes.{Consumes}
use Rattle.std.proofs.KnownBytes.{Consumes-trans}
use Rattle.intake.proofs.take_in.Goals as goal

joined : (at got : ℕ) (before after : List ℕ) → take at after ≡ take at before → take at before ++ take got (drop at after) ≡ take (at + got) after
joined at got before after front = ap (λ l. l ++ take got (drop at after)) (sym front) ∙ sym (take-add at got after)

pub loop-at-preserved : goal.loop-at-preserved
loop-at-preserved g c =
    record {
      within = omega (arith, c.in-Ok.ensures.within);
      bytes = subst (Consumes _ _) (joined _ _ _ _ c.read_at.ensures.front) (Consumes-trans _ _ _ _ _ c.loop-at.invariant.bytes c.in-Ok.ensures.bytes);
    }
