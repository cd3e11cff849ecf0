-- What a program over job files puts out.
use Rattle.std.specs.Prelude.{ℕ, List, [], ◌∷◌, Option, Some, None, take}

-- the bytes written, at the front of the memory; where there are none, `R 14` and a line feed
abbrev pub answer_in : (memory : List ℕ) → (written : Option ℕ) → List ℕ
answer_in memory (Some n) = take n memory
answer_in memory None = 0x52 ∷ 0x20 ∷ 0x31 ∷ 0x34 ∷ 0x0A ∷ []
