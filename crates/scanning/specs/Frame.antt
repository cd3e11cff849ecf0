-- The framing of a line (document 01, row 5 of "Turned away").
use Rattle.std.specs.Prelude.{Bool, ◌&&◌, ℕ, eqb, get_or}
use mathlib.Core.List.{List, get_last_d}
use Rattle.characters.specs.Character.{preamble, stop}

-- FRAME: the first word is the preamble and the last the stop character; a line of no words has 0 for both
unfoldable pub framed : List ℕ → Bool
framed line = eqb (get_or line 0 0) preamble && eqb (get_last_d line 0) stop
