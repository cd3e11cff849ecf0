-- The reader asked of the words of some bytes says what its definition says of them: a line that is too long for the buffer is LENGTH either
-- way, and room for 32 values is room enough.
use mathlib.Core.Path.{◌≡◌, refl, sym, ap, ap₂, ◌∙◌}
use mathlib.Core.Bool.{Bool, true, false}
use mathlib.Core.Logic.{⊎_elim}
use mathlib.Core.List.{List, [], ◌++◌}
use Prim.Native.Nat.{ℕ, ◌/◌, ◌≤◌, ◌<◌, min}
use native.Mathlib.Nat.{eq-zero-or-pos}
use native.Mathlib.Omega.{arith}
use lib.Dec.{leb}
use lib.ListN.{length, take, drop}
use lib.Seq.{sets, take_at, take-append-le}
use borrow.Author.Tests.{ne_eqb}
use Rattle.std.specs.Prelude.{Result}
use Rattle.lines.specs.Write.{at_front}
use Rattle.packing.specs.Words.{as_bytes, line_on, line_in}
use Rattle.packing.proofs.Taken.{whole_or_none, packed_front}
use Rattle.questions.proofs.Good.{words_most, words_least}
use Rattle.questions.specs.Question.{good_question}
use Rattle.questions.specs.Shape.{shape_of}
use Rattle.questions.specs.declared.question.Question as asked
use Rattle.readings.specs.Reading.{values_taken}
use Rattle.readings.specs.Packed.{packed_reading}
use Rattle.readings.specs.declared.Refusal.{Refusal}
use Rattle.readings.specs.declared.Taken.{Taken}
use Rattle.judging.specs.Judge.{screen_rows, rows_of, judge_of}
use Rattle.judging.proofs.Accepted.{values_fit, some_values}
use Rattle.judging.proofs.Bounds.{room_enough}
use Rattle.reader.specs.Read.{values_on, ReadDone}
use Rattle.reader.proofs.Values.{handed_number}
use Rattle.c_reader.specs.ReadBytes.{reading_on, ReadBytesDone}

-- ---- a line of another length

-- a line that no answer has the length of is judged as no line at all
no_line_fits : (q : asked.Question) (line : List ℕ) (room : ℕ) → 140 < length line → judge_of q line room ≡ judge_of q [] room
unfolding judge_of rows_of screen_rows
no_line_fits q line room long = by_tests (good_question q) (leb (shape_of q).values room) refl refl
  where
    by_tests : (t u : Bool) → good_question q ≡ t → leb (shape_of q).values room ≡ u → judge_of q line room ≡ judge_of q [] room
    by_tests false u bad space = simp bad
    by_tests true false good short = simp (good, short)
    by_tests true true good enough =
        let other = ne_eqb (length line) (shape_of q).words (λ e. omega (arith, words_most q good)) in
        let none = ne_eqb 0 (shape_of q).words (λ e. omega (arith, words_least q good)) in
        simp (good, enough, other, none)

-- the line as the buffer takes it
pub as_taken : (q : asked.Question) (bytes : List ℕ) (room : ℕ) → judge_of q (line_in 140 bytes) room ≡ judge_of q (line_on bytes) room
as_taken q bytes room =
    ⊎_elim
    (λ (whole : line_in 140 bytes ≡ line_on bytes). ap (λ (l : List ℕ). judge_of q l room) whole)
    (λ (none : (line_in 140 bytes ≡ []) × (140 < length (line_on bytes))).
    ap (λ (l : List ℕ). judge_of q l room) none.0 ∙ sym (no_line_fits q (line_on bytes) room none.1))
    (whole_or_none 140 bytes)

-- an answer with values was taken whole
pub values_as_taken : (q : asked.Question) (bytes : List ℕ) (room : ℕ)
    → values_on (line_in 140 bytes) (values_taken (judge_of q (line_on bytes) room)) ≡ values_on (line_on bytes) (values_taken (judge_of q (line_on bytes) room))
values_as_taken q bytes room =
    ⊎_elim
    (λ (whole : line_in 140 bytes ≡ line_on bytes). ap (λ (l : List ℕ). values_on l (values_taken (judge_of q (line_on bytes) room))) whole)
    (λ (none : (line_in 140 bytes ≡ []) × (140 < length (line_on bytes))).
    ap (values_on (line_in 140 bytes)) (long none.1) ∙ sym (ap (values_on (line_on bytes)) (long none.1)))
    (whole_or_none 140 bytes)
  where
    long : 140 < length (line_on bytes) → values_taken (judge_of q (line_on bytes) room) ≡ 0
    long over =
        ⊎_elim (λ (none : values_taken (judge_of q (line_on bytes) room) ≡ 0). none)
        (λ some. let c = some_values q (line_on bytes) room some in absurd (omega (arith, c.taken.words, words_most q c.taken.good)))
        (eq-zero-or-pos (values_taken (judge_of q (line_on bytes) room)))

values_on_lem : (q : asked.Question) (line out : List ℕ)
    → values_on (line_in 140 line) (values_taken (reading_on q line out)) ≡ values_on (line_on line) (values_taken (reading_on q line out))
unfolding reading_on
values_on_lem q line out = values_as_taken q line (length out / 2)

values_number : (q : asked.Question) (line out : List ℕ)
    → length (values_on (line_on line) (values_taken (reading_on q line out))) ≡ values_taken (reading_on q line out)
unfolding reading_on
values_number q line out = handed_number q (line_on line) (length out / 2)

-- ---- the whole call

module _ (q : asked.Question) (line out : List ℕ) (room : ℕ) (is_room : room ≡ min (length out / 2) 32) (taken_line blank part : List ℕ) (reading : Result Taken Refusal)
    (is_line : taken_line ≡ line_in 140 line) (size : length blank ≡ room) (done : ReadDone q taken_line blank part reading) where
  pub says_so : reading ≡ reading_on q line out
  unfolding reading_on
  says_so =
      done.says ∙ ap₂ (λ (l : List ℕ) (n : ℕ). judge_of q l n) is_line (size ∙ is_room) ∙ room_enough q (line_in 140 line) (length out / 2)
      ∙ as_taken q line (length out / 2)

  pub few_values : values_taken reading ≤ room
  few_values =
      let fit = values_fit q taken_line (length blank) in
      omega (arith, ap values_taken done.says, fit.1)

  pub read_done : (rest out' : List ℕ) (r : ℕ) → length part ≡ length blank
      → out' ≡ sets out 0 (as_bytes (take (length out / 2) (take (values_taken reading) (part ++ rest)))) → r ≡ packed_reading reading
      → ReadBytesDone q line out out' r
  read_done rest out' r kept packs packed =
      let m = values_taken reading in
      let same : m ≡ values_taken (reading_on q line out) = ap values_taken says_so in
      let values = values_on (line_on line) (values_taken (reading_on q line out)) in
      let many : length values ≡ m = values_number q line out ∙ sym same in
      let stands : part ≡ at_front (values_on taken_line m) blank =
      done.leaves ∙ ap (λ (x : Result Taken Refusal). at_front (values_on taken_line (values_taken x)) blank) (sym done.says) in
      let given : values_on taken_line m ≡ values =
      ap₂ values_on is_line same ∙ values_read in
      let front : take m (part ++ rest) ≡ values =
      take-append-le m part rest (omega (arith, few_values, kept)) ∙ ap (take m) (stands ∙ ap (λ (v : List ℕ). at_front v blank) given)
      ∙ take_at values (drop (length values) blank) m many in
      record {
        says = packed ∙ ap packed_reading says_so;
        leaves =
            packs ∙ ap (λ (v : List ℕ). sets out 0 (as_bytes (take (length out / 2) v))) front
            ∙ packed_front values out (omega (arith, many, few_values, is_room));
      }
    where
      values_read : values_on (line_in 140 line) (values_taken (reading_on q line out)) ≡ values_on (line_on line) (values_taken (reading_on q line out))
      values_read = values_on_lem q line out
