-- How the rows of "Turned away" are read (document 01: "Numbers are also the order of checks"): rows are a list in the order of their numbers,
-- the first that is given decides, and where none is given the answer is taken.
use Rattle.std.specs.Prelude.{Bool, true, false, Result, Ok, Err, List, [], ◌∷◌}
use Rattle.readings.specs.declared.Refusal.{Refusal}
use Rattle.readings.specs.declared.Taken.{Taken}

-- what a row, or some rows in their order, say of an answer: that it passes, or why it is turned away
abbrev pub Said : Type 0
Said = Result (Unit {0}) Refusal

-- a row that asks for something, and is given where that is not so
abbrev pub given_unless : Refusal → Bool → Said
given_unless why true = Ok tt
given_unless why false = Err why

-- the first row of the list that is given
abbrev pub first_fault : List Said → Said
first_fault [] = Ok tt
first_fault (Ok pass ∷ rows) = first_fault rows
first_fault (Err why ∷ rows) = Err why

-- what is said where rows say this, and this reading is taken where they pass
abbrev pub said : Said → Result Taken Refusal → Result Taken Refusal
said (Ok pass) taken = taken
said (Err why) taken = Err why
