-- Lent memory after a call (document 01, "Turned away": a call turned away writes nothing).
use Rattle.std.specs.Prelude.{List, ◌++◌, ℕ, zero, suc, length, drop}

-- some words with one list at the front, the rest as it was
abbrev pub at_front : List ℕ → List ℕ → List ℕ
at_front line words = line ++ drop (length line) words

-- what a call leaves, by its answer's number: 0, what it has written; a row's, all as it was before
abbrev pub left_by : {Memory : Type 0} → (number : ℕ) → (written before : Memory) → Memory
left_by zero written before = written
left_by (suc row) written before = before
