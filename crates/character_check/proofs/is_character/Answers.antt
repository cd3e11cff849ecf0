-- `is_character` meets its contract: the mask and the count of the set bits decide, which one computed test of the words without high bits shows.
use mathlib.Core.Path.{refl, sym}
use lib.Count.{ones_in}
use Rattle.character_check.specs.Check.{is_character}
use Rattle.character_check.proofs.Masks.{told, unframed, by_parity}
use Rattle.character_check.proofs.is_character.Goals as goal

pub returns-then-w-ne3072 : goal.returns-then-w-ne3072
unfolding told is_character ones_in
returns-then-w-ne3072 c = sym (unframed _ _ c.args.w c.if-w-ne3072.true refl)

pub returns : goal.returns
unfolding told is_character ones_in
returns c = sym (by_parity _ _ c.args.w c.ranges.w.fits refl refl c.if-w-ne3072.false refl)
