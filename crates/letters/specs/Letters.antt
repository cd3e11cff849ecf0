-- The letters of a certificate (document 01, "Job file and certificate"; document 02, M-100), as a fold over what is heard of the entries in
-- their order. A device's letter after an entry is worked out from its letter before, the question, the reader's acceptance and its own value,
-- of which the bits of the write's mask decide.
use Rattle.std.specs.Prelude.{Bool, cond, ◌&&◌, List, [], ◌∷◌, ℕ, eqb, get_or, replicate, Result, Ok, Err}
use Rattle.std.specs.Int.Bits.{bit_and}
use Rattle.ground.specs.Sweep.{tabulated}
use Rattle.questions.specs.Question.{asking, hello_all, read_all, good_question, covers}
use Rattle.questions.specs.declared.question.Question.{Question}
use Rattle.readings.specs.declared.Refusal.{Refusal}
use Rattle.readings.specs.declared.Taken.{Taken}
use Rattle.readings.specs.declared.Taken.TheVariants.{Counted, Written, Values}
use Rattle.masks.specs.Masks.{is_write}
use Rattle.letters.specs.declared.Standing.{Standing}

-- S equal, O other, U no such read: ASCII
abbrev pub S : ℕ
S = 0x53

abbrev pub O : ℕ
O = 0x4F

abbrev pub U : ℕ
U = 0x55

-- a write entry whose question is good
unfoldable pub is_good_write : Question → Bool
is_good_write q = is_write q.kind && good_question q

-- of the values that a read handed out, device a's own: READALL's come in address order, READDEVICE has one
unfoldable pub value_for : Question → (a : ℕ) → (values : List ℕ) → ℕ
value_for q a values = get_or values (cond (eqb q.kind read_all) a 0) 0

-- an accepted read decides the letter of device a where it is a read of the written register, and covers the device, as the write does
unfoldable pub decides : (write q : Question) → (a : ℕ) → Bool
decides write q a = eqb q.reg write.reg && covers q a && covers write a

-- S equal in the masked bits, O other
abbrev pub verdict : (mask value written : ℕ) → ℕ
verdict mask value written = cond (eqb (bit_and value mask) (bit_and written mask)) S O

-- device a's letter after an accepted read
unfoldable pub letter_after : (write : Question) → (mask : ℕ) → (q : Question) → (a : ℕ) → (values : List ℕ) → (letter : ℕ) → ℕ
letter_after write mask q a values letter = cond (decides write q a) (verdict mask (value_for q a values) write.value) letter

-- a write starts all its devices at U, and its mask is the one that counts
abbrev pub unheard : Question → (mask : ℕ) → Standing
unheard write mask = record { write = write; mask = mask; letters = replicate 32 U }

-- before the first good write: a question that covers no device
abbrev pub nothing_written : Question
nothing_written = asking hello_all 0 0 0 0 0 0

abbrev pub begun : Standing
begun = unheard nothing_written 0

-- each device's letter after an accepted read
abbrev pub decided : Standing → Question → (values : List ℕ) → Standing
decided s q values = record {
  write = s.write;
  mask = s.mask;
  letters = tabulated (λ (a : ℕ). letter_after s.write s.mask q a values (get_or s.letters a 0)) 32 0;
}

-- only an accepted read has values; a refusal, a write's echo and a count leave the letters as they stand
abbrev pub by_reading : Standing → Question → Result Taken Refusal → (values : List ℕ) → Standing
by_reading s q (Ok (Counted n)) values = s
by_reading s q (Ok Written) values = s
by_reading s q (Ok (Values m)) values = decided s q values
by_reading s q (Err why) values = s

-- one entry; its mask counts where it is a good write
unfoldable pub hear_of : Standing → Question → (mask : ℕ) → Result Taken Refusal → (values : List ℕ) → Standing
hear_of s q mask reading values = cond (is_good_write q) (unheard q mask) (by_reading s q reading values)

-- what is heard of an entry: its question and mask, what the reader says of its answer, and the values that the reader hands out
pub record Heard : Type 0 where
  pub question : Question
  pub mask : ℕ
  pub reading : Result Taken Refusal
  pub values : List ℕ

-- all entries, in their order
unfoldable pub heard_from : Standing → List Heard → Standing
heard_from s [] = s
heard_from s (e ∷ es) = heard_from (hear_of s e.question e.mask e.reading e.values) es

-- the letters' standing after a whole job
abbrev pub standing_after : List Heard → Standing
standing_after es = heard_from begun es
