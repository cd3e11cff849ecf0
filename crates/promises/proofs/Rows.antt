-- The reader's refusals are those of document 01's table: its checks are given where the rows are, one by one, and what a refusal carries is what
-- stands on the line.
use mathlib.Core.Path.{◌≡◌, refl, sym, ap, ◌∙◌, subst}
use mathlib.Core.Bool.{Bool, true, false}
use mathlib.Core.List.{List}
use Prim.Native.Nat.{ℕ}
use native.Mathlib.Omega.{arith}
use lib.Dec.{eqb, leb}
use lib.ListN.{length}
use borrow.Author.Tests.{leb-true, leb-false, eqb-true, eqb-false}
use Rattle.std.specs.Prelude.{Ok, Err, Option, Some, None}
use Rattle.characters.specs.Nibble.{is_nibble}
use Rattle.character_check.specs.Check.{is_character}
use Rattle.lines.specs.Line.{bytes_of}
use Rattle.scanning.specs.Place.{first_no_character, first_no_nibble}
use Rattle.scanning.specs.Frame.{framed}
use Rattle.questions.specs.Question.{good_question}
use Rattle.questions.specs.Shape.{shape_of}
use Rattle.questions.specs.declared.question.Question as asked
use Rattle.readings.specs.Reading.{number_of}
use Rattle.readings.specs.FirstFault.{Said, given_unless, first_fault, said}
use Rattle.readings.specs.declared.Refusal.{Refusal}
use Rattle.readings.specs.declared.Refusal.TheVariants.{Question, Room, Length, Character, Frame, Manchester, Echo, Pec, Alive, Check, Count}
use Rattle.readings.proofs.FirstFault.{Each, first_of_each, no_row_is_zero}
use Rattle.readings.proofs.FirstFault.Each.{none as no_more, next as and-next}
use Rattle.contents.specs.Rows.{echoed, pec_right, alive_right, check_byte, count_right, taken_of}
use Rattle.contents.specs.InOrder.{byte_rows}
use Rattle.contents.proofs.RowLaws.{taken_zero}
use Rattle.judging.specs.Judge.{given_at, screen_rows, rows_of, judge_of}
use Rattle.promises.specs.ByNumber.{NumberDue}
use Rattle.promises.specs.Rows.{check_in, count_in, read_rows, Lowest, Carried}
use Rattle.promises.proofs.ByNumber.{Alike, asks, looks, first_given}
use Rattle.promises.proofs.ByNumber.Alike.{end, next}
use Rattle.promises.proofs.RowsGiven as given

module _ (q : asked.Question) (line : List ℕ) (lent : ℕ) where
  bytes : List ℕ
  bytes = bytes_of line

  taken_number : number_of (taken_of q (bytes_of line)) ≡ 0
  taken_number = taken_zero q (bytes_of line) number_of (λ n. refl) refl (λ m. refl)

  -- ---- by number

  alike : Alike (read_rows q line lent) (rows_of q line lent)
  unfolding rows_of screen_rows byte_rows bytes
  alike =
      next (asks 1 _ Question (good_question q) refl (λ bad. bad) given.never)
      (next (asks 2 _ Room (leb (shape_of q).values lent) refl (leb-false (shape_of q).values lent)
      (λ e short. omega (arith, leb-true (shape_of q).values lent e)))
      (next (asks 3 _ Length (eqb (length line) (shape_of q).words) refl (eqb-false (length line) (shape_of q).words)
      (λ e other. other (eqb-true (length line) (shape_of q).words e)))
      (next (looks 4 _ Character (first_no_character line) (λ i. refl)
      (λ i e. let at = given.no_character line i e in (i, omega (arith, at.below), at.fails)) (given.all_characters line))
      (next (asks 5 _ Frame (framed line) refl (given.bad_frame line) (given.good_frame line))
      (next (looks 6 _ Manchester (first_no_nibble line) (λ i. refl)
      (λ i e. let at = given.no_nibble line i e in (i, at.from, at.below, at.fails)) (given.all_nibbles line))
      (next (asks 7 _ Echo (echoed q bytes) refl (given.bad_echo q bytes) (given.good_echo q bytes))
      (next (asks 8 _ Pec (pec_right q bytes) refl (given.bad_pec q bytes) (given.good_pec q bytes))
      (next (asks 9 _ Alive (alive_right q bytes) refl (given.bad_alive q bytes) (given.good_alive_byte q bytes))
      (next (asks 10 _ (Check _) (eqb (check_byte q bytes) 0) refl (given.bad_check q bytes) (given.good_check q bytes))
      (next (asks 11 _ (Count _) (count_right q bytes) refl (given.bad_count q bytes) (given.good_count_byte q bytes))
      end))))))))))

  pub by_number : NumberDue (read_rows q line lent) (number_of (judge_of q line lent))
  unfolding judge_of
  by_number = first_given (read_rows q line lent) (rows_of q line lent) alike (taken_of q (bytes_of line)) taken_number

  -- ---- what a refusal carries

  abbrev CarriedBy : Refusal → Type 0
  CarriedBy Question = Unit
  CarriedBy Room = Unit
  CarriedBy Length = Unit
  CarriedBy (Character i) = Lowest is_character line 0 i
  CarriedBy Frame = Unit
  CarriedBy (Manchester i) = Lowest is_nibble line 1 i
  CarriedBy Echo = Unit
  CarriedBy Pec = Unit
  CarriedBy Alive = Unit
  CarriedBy (Check b) = b ≡ check_in q (bytes_of line)
  CarriedBy (Count b) = b ≡ count_in (bytes_of line)

  Told : Said → Type 0
  Told (Ok pass) = Unit
  Told (Err why) = CarriedBy why

  unless : (why : Refusal) (t : Bool) → (t ≡ false → CarriedBy why) → Told (given_unless why t)
  unfolding Told
  unless why true tells = tt
  unless why false tells = tells refl

  at : (why : ℕ → Refusal) (p : Option ℕ) → ((i : ℕ) → p ≡ Some i → CarriedBy (why i)) → Told (given_at why p)
  unfolding Told
  at why (Some i) tells = tells i refl
  at why None tells = tt

  told : Each Told (rows_of q line lent)
  unfolding rows_of screen_rows byte_rows bytes
  told =
      and-next (unless Question (good_question q) (λ e. tt))
      (and-next (unless Room (leb (shape_of q).values lent) (λ e. tt))
      (and-next (unless Length (eqb (length line) (shape_of q).words) (λ e. tt))
      (and-next (at Character (first_no_character line) (given.no_character line))
      (and-next (unless Frame (framed line) (λ e. tt))
      (and-next (at Manchester (first_no_nibble line) (given.no_nibble line))
      (and-next (unless Echo (echoed q bytes) (λ e. tt))
      (and-next (unless Pec (pec_right q bytes) (λ e. tt))
      (and-next (unless Alive (alive_right q bytes) (λ e. tt))
      (and-next (unless (Check (check_byte q bytes)) (eqb (check_byte q bytes) 0) (given.told_check q bytes))
      (and-next (unless (Count (count_in bytes)) (count_right q bytes) (λ e. refl))
      no_more))))))))))

  pub carried : (why : Refusal) → judge_of q line lent ≡ Err why → Carried q line why
  unfolding judge_of Told
  carried why e =
      let tells = by_screened (first_fault (rows_of q line lent)) (first_of_each Told tt (rows_of q line lent) told) e in
      record {
        character = λ i is. subst CarriedBy is tells;
        manchester = λ i is. subst CarriedBy is tells;
        check = λ b is. subst CarriedBy is tells;
        count = λ b is. subst CarriedBy is tells;
      }
    where
      by_screened : (s : Said) → Told s → said s (taken_of q (bytes_of line)) ≡ Err why → CarriedBy why
      by_screened (Ok pass) tells e = absurd (no_row_is_zero why (sym (ap number_of e) ∙ taken_number))
      by_screened (Err other) tells e = let same : other ≡ why = cc in subst CarriedBy same tells
