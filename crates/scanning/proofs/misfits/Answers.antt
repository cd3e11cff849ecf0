-- `misfits` meets its contract: one computed test of the words without high bits shows it.
use mathlib.Core.Path.{refl}
use Rattle.characters.specs.Character.{word_of}
use Rattle.characters.specs.Nibble.{nibble_word}
use Rattle.scanning.proofs.NoMisfits.{told, no_misfits}
use Rattle.scanning.proofs.misfits.Goals as goal

pub returns : goal.returns
unfolding told nibble_word word_of
returns c = no_misfits _ _ _ _ c.args.w c.ranges.w.fits refl refl refl
