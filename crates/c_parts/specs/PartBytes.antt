-- The second call over bytes (document 01, "The C side").
use Rattle.std.specs.Prelude.{Option, Some, None, List, ℕ, ◌+◌, ◌*◌}
use Rattle.packing.specs.Words.{line_on}
use Rattle.questions.specs.declared.question.Question.{Question}
use Rattle.parts.specs.Part.{place_found}

-- bits 0 to 7 how many words the part has, 4 or none; bits 16 to 31 the place of its first word
abbrev pub packed_start : Option ℕ → ℕ
packed_start None = 0
packed_start (Some start) = 4 + 65536 * start

-- the part of the line that carries the device's register; a line of an odd number of bytes has none
unfoldable pub part_in : Question → (device : ℕ) → (line : List ℕ) → ℕ
part_in q device line = packed_start (place_found q (line_on line) device)
