-- `microvolts`: each step is its own word, and the quotient is the nearest whole number.
use mathlib.Core.Path.{◌≡◌, refl, sym, ap, ◌∙◌}
use mathlib.Core.Bool.{true, false}
use Prim.Native.Nat.{◌<◌}
use lib.IntN.{ℤ, pos, negsuc, nat_abs, ◌+ℤ◌, ◌*ℤ◌}
use lib.Signed.{lt_z, quot_z}
use mir.Syntax.{w32}
use mir.Val.{SFits, to_z, of_z}
use Rattle.cells.specs.Voltage.{microvolts_of}
use Rattle.cells.proofs.Scaled.{scaled_fits, half_of, half_below, half_above, half_fits, half_is, microvolts_fit, kept}
use Rattle.cells.proofs.microvolts.Goals as goal

module _ (d : ℤ) (f : SFits w32 d) (h : nat_abs d < 16384) where
  word : to_z w32 (of_z w32 d) ≡ d
  word = kept d d refl f

  times : to_z w32 (of_z w32 d) *ℤ pos 78125 ≡ d *ℤ pos 78125
  times = ap (λ (z : ℤ). z *ℤ pos 78125) word

  scaled : to_z w32 (of_z w32 (to_z w32 (of_z w32 d) *ℤ pos 78125)) ≡ d *ℤ pos 78125
  scaled = kept (to_z w32 (of_z w32 d) *ℤ pos 78125) (d *ℤ pos 78125) times (scaled_fits d h)

module _ (d : ℤ) (f : SFits w32 d) (h : nat_abs d < 16384) (half : ℤ) (away : half_of d ≡ half) where
  plus : to_z w32 (of_z w32 (to_z w32 (of_z w32 d) *ℤ pos 78125)) +ℤ half ≡ d *ℤ pos 78125 +ℤ half_of d
  plus = λ i. scaled d f h i +ℤ sym away i

  cut : quot_z (to_z w32 (of_z w32 (to_z w32 (of_z w32 (to_z w32 (of_z w32 d) *ℤ pos 78125)) +ℤ half))) (pos 256) ≡ microvolts_of d
  cut = ap (λ (z : ℤ). quot_z z (pos 256)) (kept _ (d *ℤ pos 78125 +ℤ half_of d) plus (half_fits d h)) ∙ half_is d

  answer : to_z w32 (of_z w32 (quot_z (to_z w32 (of_z w32 (to_z w32 (of_z w32 (to_z w32 (of_z w32 d) *ℤ pos 78125)) +ℤ half))) (pos 256))) ≡ microvolts_of d
  answer = kept _ (microvolts_of d) cut (microvolts_fit d h)

-- which half the test chose
taken : (d : ℤ) → SFits w32 d → lt_z (to_z w32 (of_z w32 d)) (pos 0) ≡ true → half_of d ≡ negsuc 127
taken d f t = half_below d (ap (λ (z : ℤ). lt_z z (pos 0)) (sym (kept d d refl f)) ∙ t)

left : (d : ℤ) → SFits w32 d → lt_z (to_z w32 (of_z w32 d)) (pos 0) ≡ false → half_of d ≡ pos 128
left d f t = half_above d (ap (λ (z : ℤ). lt_z z (pos 0)) (sym (kept d d refl f)) ∙ t)

pub returns-then-d-lt0 : goal.returns-then-d-lt0
returns-then-d-lt0 c = answer c.args.d c.ranges.d c.requires (negsuc 127) (taken c.args.d c.ranges.d c.if-d-lt0.true)

pub returns-else-d-lt0 : goal.returns-else-d-lt0
returns-else-d-lt0 c = answer c.args.d c.ranges.d c.requires (pos 128) (left c.args.d c.ranges.d c.if-d-lt0.false)
