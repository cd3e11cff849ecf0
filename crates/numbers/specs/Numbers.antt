-- Document 01's number of an answer: 0 where it was given, else the row's ("Turned away").
use Rattle.std.specs.Prelude.{ℕ, Result, Ok, Err}

abbrev pub answer_number : {T E : Type 0} → (E → ℕ) → Result T E → ℕ
answer_number row (Ok value) = 0
answer_number row (Err why) = row why
