-- What passes the check: the preamble, the stop character, and the word of each nibble.
use mathlib.Core.Path.{◌≡◌, refl, ap, ◌∙◌}
use mathlib.Core.Bool.{Bool, true}
use Prim.Native.Nat.{ℕ, ◌<◌}
use Rattle.ground.specs.Sweep.{every}
use Rattle.ground.proofs.Sweep.{swept}
use Rattle.characters.specs.Character.{word_of, preamble, stop}
use Rattle.characters.specs.Nibble.{nibble_word, true_bits, is_nibble}
use Rattle.characters.proofs.Nibble.{nibble_word_lem, true_bits_lt}
use Rattle.character_check.specs.Check.{is_character}

pub preamble_character : is_character preamble ≡ true
unfolding is_character
preamble_character = refl

pub stop_character : is_character stop ≡ true
unfolding is_character
stop_character = refl

-- one test of the sixteen nibbles
nibble_passes : ℕ → Bool
nibble_passes n = is_character (nibble_word n)

all_pass : every nibble_passes 16 ≡ true
unfolding nibble_passes nibble_word word_of is_character
all_pass = refl

pub nibble_character : (n : ℕ) → n < 16 → is_character (nibble_word n) ≡ true
unfolding nibble_passes
nibble_character n h = swept nibble_passes 16 all_pass n h

-- a word that is a nibble's is a character
pub nibble_is_character : (w : ℕ) → is_nibble w ≡ true → is_character w ≡ true
nibble_is_character w e = ap is_character (nibble_word_lem w e) ∙ nibble_character (true_bits w) (true_bits_lt w)
