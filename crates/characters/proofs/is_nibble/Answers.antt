-- `is_nibble` meets its contract: the masks decide, which one computed test of the words without high bits shows.
use mathlib.Core.Path.{refl, sym}
use Rattle.characters.specs.Character.{word_of}
use Rattle.characters.specs.Nibble.{nibble_word}
use Rattle.characters.proofs.Masks.{told, unframed, by_complements}
use Rattle.characters.proofs.is_nibble.Goals as goal

pub returns-then-w-ne3072 : goal.returns-then-w-ne3072
unfolding told nibble_word word_of
returns-then-w-ne3072 c = sym (unframed _ _ c.args.w c.if-w-ne3072.true refl)

pub returns : goal.returns
unfolding told nibble_word word_of
returns c = sym (by_complements _ _ c.args.w c.ranges.w.fits refl refl c.if-w-ne3072.false refl)
