-- Rows 4 to 6 by themselves. This file is the code's alone, and no promise speaks of it: the rows stand in Judge.antt, and here is only how the
-- reader looks at three of them. A line that none of these turns away is told by one look, framed and every word between a nibble.
use Rattle.std.specs.Prelude.{◌≡◌, Bool, ◌&&◌, List, ℕ, drop}
use Rattle.scanning.specs.Place.{all_nibbles}
use Rattle.scanning.specs.Frame.{framed}
use Rattle.questions.specs.declared.question.Question.{Question}
use Rattle.readings.specs.FirstFault.{Said, first_fault}
use Rattle.judging.specs.Judge.{screen_rows}

-- what rows 4 to 6 of the list say of a line, whatever is asked and whatever the room
abbrev pub WordsSay : List ℕ → Said → Type 0
WordsSay line said = (q : Question) (room : ℕ) → said ≡ first_fault (drop 3 (screen_rows q line room))

unfoldable pub is_clean : List ℕ → Bool
is_clean line = framed line && all_nibbles line
