-- What a device acts on, and what it hands on (document 01, "The twin").
use Rattle.std.specs.Prelude.{Bool, cond, ◌&&◌, List, ℕ, get_or}
use Rattle.ground.specs.Same.{same}
use Rattle.lines.specs.Line.{line_of}
use Rattle.hearing.specs.Hear.{is_place, carried, heard}
use Rattle.underway.specs.TakeUp.{met_bytes, handed_bytes}

module _ (n k : ℕ) (line : List ℕ) where
  -- how many values stand on the line, if it is the command that it seems
  abbrev pub before : ℕ
  before = carried (heard n k line).kind k

  -- the command that the line puts to device k, if any, as the devices before left it
  unfoldable pub met : List ℕ
  met = line_of (met_bytes (heard n k line) k before line)

  -- a device acts only on a line that is some command as the devices before it would have left it
  unfoldable pub acts : Bool
  acts = is_place n k && same line met

  -- the command as device k hands it on
  unfoldable pub handed : (own : ℕ) → List ℕ
  handed own = line_of (handed_bytes (heard n k line) k own before line)

  -- any other line, or one for another device, passes unchanged
  unfoldable pub handed_on : (registers : List ℕ) → List ℕ
  handed_on registers = cond acts (handed (get_or registers (heard n k line).reg 0)) line
