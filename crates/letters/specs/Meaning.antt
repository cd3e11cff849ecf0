-- What a letter means (document 01, "Job file and certificate"; document 02, M-100), said of the list of entries, with no state and no step:
-- the certificate concerns the last write entry whose question is good; for each device it covers, the latest accepted read of that register
-- that comes after it and covers the device decides: S exactly where it shows the value written. To show it is said on its own, so that both
-- can be read: in the masked bits, as the certificate has it, and in all sixteen, which is the same for a version 1 file.
use Rattle.std.specs.Prelude.{◌≡◌, Bool, true, false, ◌&&◌, List, [], ◌∷◌, ◌++◌, ℕ, get_or, Result, Ok, Err}
use Rattle.std.specs.Int.Bits.{bit_and}
use Rattle.questions.specs.Question.{covers}
use Rattle.questions.specs.declared.question.Question.{Question}
use Rattle.readings.specs.declared.Refusal.{Refusal}
use Rattle.readings.specs.declared.Taken.{Taken}
use Rattle.readings.specs.declared.Taken.TheVariants.{Counted, Written, Values}
use Rattle.letters.specs.Letters.{Heard, S, O, U, is_good_write, decides, value_for, standing_after}

-- no entry of the list passes the test
pub data None (test : Heard → Bool) : List Heard → Type 0 where
  none : None test []
  more : (e : Heard) (es : List Heard) → test e ≡ false → None test es → None test (e ∷ es)

-- the last entry of the list that passes the test, with what comes before and after it
pub record Last (test : Heard → Bool) (es : List Heard) : Type 0 where
  pub before : List Heard
  pub entry : Heard
  pub after : List Heard
  pub whole : es ≡ before ++ (entry ∷ after)
  pub passes : test entry ≡ true
  pub last : None test after

abbrev pub good_write : Heard → Bool
good_write e = is_good_write e.question

-- the reader accepted a read
abbrev pub is_values : Result Taken Refusal → Bool
is_values (Ok (Counted n)) = false
is_values (Ok Written) = false
is_values (Ok (Values m)) = true
is_values (Err why) = false

-- an accepted read of the written register, which covers the device
abbrev pub decisive : (write : Question) → (a : ℕ) → Heard → Bool
decisive write a e = is_values e.reading && decides write e.question a

-- of the values that an entry's read handed out, device a's own
abbrev pub own_value : (a : ℕ) → Heard → ℕ
own_value a e = value_for e.question a e.values

-- a value shows what was written: in the bits of the write's mask (document 02, M-100),
abbrev pub shown_masked : (write : Heard) → (value : ℕ) → Type 0
shown_masked write value = bit_and value write.mask ≡ bit_and write.question.value write.mask

-- or in all sixteen bits (document 01)
abbrev pub shown_whole : (write : Heard) → (value : ℕ) → Type 0
shown_whole write value = value ≡ write.question.value

-- the letter that the entries after a write leave device a: the latest accepted read of that register that covers the device decides
pub data Decided (Shown : (write : Heard) → (value : ℕ) → Type 0) (write : Heard) (a : ℕ) (after : List Heard) : (letter : ℕ) → Type 0 where
  holds : (r : Last (decisive write.question a) after) → Shown write (own_value a r.entry) → Decided Shown write a after S
  differs : (r : Last (decisive write.question a) after) → (Shown write (own_value a r.entry) → ⊥) → Decided Shown write a after O
  unread : None (decisive write.question a) after → Decided Shown write a after U

-- the letter that device a deserves: the last good write covers it, and what comes after leaves it that letter
pub record Deserves (Shown : (write : Heard) → (value : ℕ) → Type 0) (es : List Heard) (a letter : ℕ) : Type 0 where
  pub write : Last good_write es
  pub covered : covers write.entry.question a ≡ true
  pub decided : Decided Shown write.entry a write.after letter

-- the certificate gives device a this letter: a device that the standing write covers has the letter that stands
pub record Given (es : List Heard) (a letter : ℕ) : Type 0 where
  pub covered : covers (standing_after es).write a ≡ true
  pub stands : get_or (standing_after es).letters a 0 ≡ letter

-- two entries that are alike for device a: the same question and mask, accepted both or neither, and in an accepted read that covers the device
-- values of its own that are the same, in a sense that is given. Other devices' values may differ.
pub record AlikeBy (Same : (value value' : ℕ) → Type 0) (a : ℕ) (e e' : Heard) : Type 0 where
  pub question : e.question ≡ e'.question
  pub mask : e.mask ≡ e'.mask
  pub accepted : is_values e.reading ≡ is_values e'.reading
  pub own : is_values e.reading ≡ true → covers e.question a ≡ true → Same (own_value a e) (own_value a e')

-- the same value of its own,
abbrev pub Alike : (a : ℕ) → (e e' : Heard) → Type 0
Alike = AlikeBy (λ (value value' : ℕ). value ≡ value')

-- or values of its own that agree in the bits of a mask
abbrev pub AlikeIn : (mask a : ℕ) → (e e' : Heard) → Type 0
AlikeIn mask = AlikeBy (λ (value value' : ℕ). bit_and value mask ≡ bit_and value' mask)
