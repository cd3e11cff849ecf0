-- TELL ME WHY (document 02, M-101). Why an answer is turned away is told, and what is told is true. Claimed of every question and every line, and of
-- every reading that meets the contract of `read` where there is room for the answer's values, or for 32:
-- accepted is said exactly where the reader accepts, and then every check passes everywhere; otherwise the refusal is the reader's, the named check fails
-- at the named spot with what stands there, it passes at every lower spot, and every earlier check passes at every spot;
-- where one right thing is named, that thing and no other would have passed the named check there, with everything else as it stands; where none is
-- named, at least two different things would have.
use Rattle.std.specs.Prelude.{◌≡◌, true, ◌⊎◌, List, ℕ, zero, suc, ◌+◌, ◌*◌, ◌%◌, ◌≤◌, ◌<◌, min, length, get_or, take, Result, Err, Ok, Option, Some, None}
use Rattle.pec.specs.Pec.{pec_of}
use Rattle.characters.specs.Character.{preamble, stop}
use Rattle.characters.specs.Nibble.{is_nibble}
use Rattle.character_check.specs.Check.{is_character}
use Rattle.lines.specs.Line.{bytes_of}
use Rattle.questions.specs.Question.{hello_all, write_all, write_device, read_all, read_device}
use Rattle.questions.specs.Shape.{shape_of}
use Rattle.questions.specs.declared.question.Question as asked
use Rattle.readings.specs.Reading.{refusal_number, number_of}
use Rattle.readings.specs.declared.Refusal.{Refusal}
use Rattle.readings.specs.declared.Refusal.TheVariants.{Question, Room, Length, Character, Frame, Manchester, Echo, Pec, Alive, Check, Count}
use Rattle.readings.specs.declared.Taken.{Taken}
use Rattle.reader.specs.Read.{ReadDone}
use Rattle.reasons.specs.Reason.{field_in, reason_of}
use Rattle.reasons.specs.declared.Field.TheVariants as field
use Rattle.reasons.specs.declared.Spot.{Spot}
use Rattle.reasons.specs.declared.Spot.TheVariants.{Asked, Whole, Word, Byte}
use Rattle.reasons.specs.declared.Because.{Because}
use Rattle.promises.specs.Rows.{echo}
use Rattle.promises.specs.Demand1.{Returns}

-- what stands at a spot: in a field of the question; how many words; the word; the byte
abbrev pub thing_at : asked.Question → (line : List ℕ) → Spot → ℕ
thing_at q line (Asked f) = field_in q f
thing_at q line Whole = length line
thing_at q line (Word i) = get_or line i 0
thing_at q line (Byte i) = get_or (bytes_of line) i 0

-- the spots that a row looks at, in their order: row 1 at its fields, as it names them; then the line, its words, its bytes
abbrev pub spot_at : Refusal → (i : ℕ) → Spot
spot_at Question zero = Asked field.Kind
spot_at Question (suc zero) = Asked field.Alive
spot_at Question (suc (suc zero)) = Asked field.Devices
spot_at Question (suc (suc (suc i))) = Asked field.Device
spot_at Room i = Whole
spot_at Length i = Whole
spot_at (Character place) i = Word i
spot_at Frame i = Word i
spot_at (Manchester place) i = Word i
spot_at Echo i = Byte i
spot_at Pec i = Byte i
spot_at Alive i = Byte i
spot_at (Check byte) i = Byte i
spot_at (Count byte) i = Byte i

-- what a row's check asks of a thing x that stands there, everything else as it is: no line looks at what stands there itself. Where the row does not
-- look, it asks nothing. (ROOM is never given: there is room. A kind above 4 breaks its own clause, so that what the other fields ask plays no part.)
abbrev pub Asks : asked.Question → (line : List ℕ) → Refusal → (i x : ℕ) → Type 0
Asks q line Question zero x = x ≤ 4
Asks q line Question (suc zero) x = x ≤ 1
Asks q line Question (suc (suc zero)) x = write_all ≤ q.kind → (1 ≤ x) × (x ≤ 32)
Asks q line Question (suc (suc (suc i))) x = (q.kind ≡ write_device) ⊎ (q.kind ≡ read_device) → x < q.n
Asks q line Room i x = Unit
Asks q line Length i x = x ≡ (shape_of q).words
Asks q line (Character place) i x = i < length line → is_character x ≡ true
Asks q line Frame i x = (i ≡ 0 → x ≡ preamble) × (suc i ≡ length line → x ≡ stop)
Asks q line (Manchester place) i x = 1 ≤ i → suc i < length line → is_nibble x ≡ true
Asks q line Echo i x = i < length (echo q) → x ≡ get_or (echo q) i 0
Asks q line Pec i x = write_all ≤ q.kind → i ≡ (shape_of q).covered → x ≡ pec_of (take i (bytes_of line))
Asks q line Alive i x = write_all ≤ q.kind → q.alive ≡ 1 → i ≡ (shape_of q).covered + 1 → x ≡ (q.seed + (shape_of q).acting) % 256
Asks q line (Check byte) i x = read_all ≤ q.kind → i ≡ 2 + 2 * (shape_of q).values → x ≡ 0
Asks q line (Count byte) i x = q.kind ≡ hello_all → i ≡ 2 → (1 ≤ x) × (x ≤ 32)

-- it passes with what stands there
abbrev pub Passes : asked.Question → (line : List ℕ) → Refusal → (i : ℕ) → Type 0
Passes q line why i = Asks q line why i (thing_at q line (spot_at why i))

-- the one thing that would have passed; or two that would
abbrev pub Only : (Passing : ℕ → Type 0) → Option ℕ → Type 0
Only Passing (Some x) = Passing x × ((other : ℕ) → Passing other → other ≡ x)
Only Passing None = (x : ℕ) × (other : ℕ) × (x < other) × Passing x × Passing other

-- what is told of a line that is turned away
pub record Told (q : asked.Question) (line : List ℕ) (b : Because) : Type 0 where
  pub place : ℕ
  pub spot : b.spot ≡ spot_at b.why place
  pub stood : b.stood ≡ thing_at q line b.spot
  pub fails : Passes q line b.why place → ⊥
  pub lower_pass : (i : ℕ) → i < place → Passes q line b.why i
  pub earlier_pass : (why : Refusal) → refusal_number why < refusal_number b.why → (i : ℕ) → Passes q line why i
  pub right : Only (Asks q line b.why place) b.right

-- what is told, held to the reader's own reading
abbrev pub TrueOf : asked.Question → (line : List ℕ) → Result Taken Refusal → Result (Unit {0}) Because → Type 0
TrueOf q line r (Ok pass) = (number_of r ≡ 0) × ((why : Refusal) (i : ℕ) → Passes q line why i)
TrueOf q line r (Err b) = (r ≡ Err b.why) × Told q line b

abbrev pub TellMeWhy : Type 0
TellMeWhy =
    (q : asked.Question) (line before after : List ℕ) (r : Result Taken Refusal) → ReadDone q line before after r → min (shape_of q).values 32 ≤ length before
    → (reason : Result (Unit {0}) Because) → Returns (reason_of q line) reason → TrueOf q line r reason
