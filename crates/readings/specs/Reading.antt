-- What the reader says, and document 01's number, place and byte for each case ("Turned away").
use Rattle.std.specs.Prelude.{ℕ, Result, Ok, Err}
use Rattle.numbers.specs.Numbers.{answer_number}
use Rattle.readings.specs.declared.Refusal.{Refusal}
use Rattle.readings.specs.declared.Refusal.TheVariants.{Question, Room, Length, Character, Frame, Manchester, Echo, Pec, Alive, Check, Count}
use Rattle.readings.specs.declared.Taken.{Taken}
use Rattle.readings.specs.declared.Taken.TheVariants.{Counted, Written, Values}

-- the row's number
abbrev pub refusal_number : Refusal → ℕ
refusal_number Question = 1
refusal_number Room = 2
refusal_number Length = 3
refusal_number (Character i) = 4
refusal_number Frame = 5
refusal_number (Manchester i) = 6
refusal_number Echo = 7
refusal_number Pec = 8
refusal_number Alive = 9
refusal_number (Check b) = 10
refusal_number (Count b) = 11

-- only CHARACTER and MANCHESTER carry a place
abbrev pub refusal_place : Refusal → ℕ
refusal_place Question = 0
refusal_place Room = 0
refusal_place Length = 0
refusal_place (Character i) = i
refusal_place Frame = 0
refusal_place (Manchester i) = i
refusal_place Echo = 0
refusal_place Pec = 0
refusal_place Alive = 0
refusal_place (Check b) = 0
refusal_place (Count b) = 0

-- only CHECK and COUNT carry a byte
abbrev pub refusal_byte : Refusal → ℕ
refusal_byte Question = 0
refusal_byte Room = 0
refusal_byte Length = 0
refusal_byte (Character i) = 0
refusal_byte Frame = 0
refusal_byte (Manchester i) = 0
refusal_byte Echo = 0
refusal_byte Pec = 0
refusal_byte Alive = 0
refusal_byte (Check b) = b
refusal_byte (Count b) = b

-- 0 for accepted, and where there is no place or no byte
abbrev pub number_of : Result Taken Refusal → ℕ
number_of = answer_number refusal_number

abbrev pub place_of : Result Taken Refusal → ℕ
place_of (Ok (Counted n)) = 0
place_of (Ok Written) = 0
place_of (Ok (Values m)) = 0
place_of (Err why) = refusal_place why

abbrev pub byte_of : Result Taken Refusal → ℕ
byte_of (Ok (Counted n)) = 0
byte_of (Ok Written) = 0
byte_of (Ok (Values m)) = 0
byte_of (Err why) = refusal_byte why

-- HELLOALL's reading is the count on the line
abbrev pub count_of : Result Taken Refusal → ℕ
count_of (Ok (Counted n)) = n
count_of (Ok Written) = 0
count_of (Ok (Values m)) = 0
count_of (Err why) = 0

-- how many values a reading hands out
abbrev pub values_taken : Result Taken Refusal → ℕ
values_taken (Ok (Counted n)) = 0
values_taken (Ok Written) = 0
values_taken (Ok (Values m)) = m
values_taken (Err why) = 0
