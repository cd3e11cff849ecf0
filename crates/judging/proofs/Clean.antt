-- A clean line passes rows 4 to 6, since preamble, nibbles and stop are characters all.
use mathlib.Core.Path.{◌≡◌, sym, ap, ◌∙◌}
use mathlib.Core.Bool.{true}
use mathlib.Core.Logic.{⊎_elim}
use mathlib.Core.List.{List}
use Prim.Native.Nat.{ℕ, ◌+◌, ◌-◌, ◌<◌, ◌≤◌}
use native.Mathlib.Nat.{eq-zero-or-pos}
use native.Mathlib.Omega.{arith}
use lib.ListN.{length, get_or}
use Rattle.std.specs.Prelude.{Ok, None}
use Rattle.ground.proofs.Test.{and_left, and_right, below_or_not}
use Rattle.characters.specs.Nibble.{is_nibble}
use Rattle.character_check.specs.Check.{is_character}
use Rattle.character_check.proofs.Pass.{preamble_character, stop_character, nibble_is_character}
use Rattle.scanning.specs.Place.{first_no_character, first_no_nibble}
use Rattle.scanning.specs.Frame.{framed}
use Rattle.scanning.proofs.FirstPlace.{nowhere_passes, passes_nowhere, characters_along, nibbles_along, nibbles_nowhere}
use Rattle.scanning.proofs.Ends.{first_preamble, last_stop}
use Rattle.judging.specs.Judge.{screen_rows}
use Rattle.judging.specs.Clean.{WordsSay, is_clean}

module _ (line : List ℕ) (clean : is_clean line ≡ true) where
  frame : framed line ≡ true
  unfolding is_clean
  frame = and_left (framed line) _ clean

  nibbles : first_no_nibble line ≡ None
  unfolding is_clean
  nibbles = nibbles_nowhere line (and_right (framed line) _ clean)

  between : (j : ℕ) → 1 ≤ j → j < 1 + (length line - 2) → is_nibble (get_or line j 0) ≡ true
  between = nowhere_passes is_nibble line 1 (length line - 2) (sym (nibbles_along line) ∙ nibbles)

  each_character : (j : ℕ) → j < length line → is_character (get_or line j 0) ≡ true
  each_character j inside =
      ⊎_elim
      (λ (start : j ≡ 0). ap (λ (k : ℕ). is_character (get_or line k 0)) start ∙ ap is_character (first_preamble line frame) ∙ preamble_character)
      (λ (later : 1 ≤ j). ⊎_elim
      (λ (middle : j < 1 + (length line - 2)). nibble_is_character (get_or line j 0) (between j later middle))
      (λ (end : 1 + (length line - 2) ≤ j).
      let is : j ≡ length line - 1 = omega arith in
      ap (λ (k : ℕ). is_character (get_or line k 0)) is ∙ ap is_character (last_stop line frame) ∙ stop_character)
      (below_or_not j (1 + (length line - 2))))
      (eq-zero-or-pos j)

  characters : first_no_character line ≡ None
  characters = characters_along line ∙ passes_nowhere is_character line 0 (length line) (λ j lo hi. each_character j (omega arith))

  pub clean_passes : WordsSay line (Ok tt)
  unfolding screen_rows
  clean_passes q room = simp (characters, frame, nibbles)
