-- What acceptance means, row by row: a line is accepted exactly where every row passes. Callers cite this and open no row.
use mathlib.Core.Path.{◌≡◌, refl, sym, ap, ◌∙◌}
use mathlib.Core.Bool.{true}
use mathlib.Core.Logic.{⊎_elim}
use mathlib.Core.List.{List}
use Prim.Native.Nat.{ℕ, ◌-◌, ◌*◌, ◌≤◌, ◌<◌}
use native.Mathlib.Nat.{eq-zero-or-pos}
use native.Mathlib.Omega.{arith}
use lib.Dec.{eqb, leb}
use lib.ListN.{length}
use borrow.Author.Tests.{eqb-true, eq-eqb, leb-true, le-leb}
use Rattle.std.specs.Prelude.{Result, Ok, Err, Option, Some, None}
use Rattle.ground.proofs.Test.{below_or_not}
use Rattle.lines.specs.Line.{bytes_of}
use Rattle.lines.proofs.Line.{byte_count}
use Rattle.scanning.specs.Place.{first_no_character, first_no_nibble}
use Rattle.scanning.specs.Frame.{framed}
use Rattle.scanning.proofs.Whole.{Passes}
use Rattle.questions.specs.Question.{good_question}
use Rattle.questions.specs.Shape.{shape_of}
use Rattle.questions.specs.declared.question.Question as asked
use Rattle.questions.proofs.Good.{good_values, read_shape}
use Rattle.readings.specs.Reading.{number_of, values_taken}
use Rattle.readings.specs.FirstFault.{first_fault}
use Rattle.readings.specs.declared.Refusal.{Refusal}
use Rattle.readings.specs.declared.Refusal.TheVariants.{Question, Room, Length, Character, Frame, Manchester, Echo, Pec, Alive, Check, Count}
use Rattle.readings.specs.declared.Taken.{Taken as Answer}
use Rattle.readings.specs.declared.Taken.TheVariants.{Counted, Written, Values}
use Rattle.readings.proofs.FirstFault.{each_passed, asked_is_so, accepted_passed}
use Rattle.contents.specs.Rows.{byte_in, echoed, pec_right, alive_right, check_byte, count_right, taken_of}
use Rattle.contents.specs.InOrder.{byte_rows}
use Rattle.contents.proofs.RowLaws.{hello_taken, write_taken, read_taken}
use Rattle.judging.specs.Judge.{given_at, screen_rows, rows_of, judge_of}

-- a row that looked for a place and passed found none
found_none : (why : ℕ → Refusal) (p : Option ℕ) → given_at why p ≡ Ok tt → p ≡ None
found_none why (Some i) e = absurd (let z : ◌≡◌ {A = ℕ} 0 1 = cc in omega arith)
found_none why None e = refl

-- every row passes
pub record Taken (q : asked.Question) (line : List ℕ) (room : ℕ) : Type 0 where
  pub good : good_question q ≡ true
  pub enough : (shape_of q).values ≤ room
  pub words : length line ≡ (shape_of q).words
  pub rows : Passes line
  pub echo : echoed q (bytes_of line) ≡ true
  pub pec : pec_right q (bytes_of line) ≡ true
  pub alive : alive_right q (bytes_of line) ≡ true
  pub check : check_byte q (bytes_of line) ≡ 0
  pub count : count_right q (bytes_of line) ≡ true

module _ (q : asked.Question) (line : List ℕ) (room : ℕ) where
  -- where they pass, this is said
  pub taken_reads : Taken q line room → judge_of q line room ≡ taken_of q (bytes_of line)
  unfolding judge_of rows_of screen_rows byte_rows
  taken_reads t =
      let enough = le-leb _ _ t.enough in
      let words = eq-eqb _ _ t.words in
      let check = eq-eqb _ _ t.check in
      simp (t.good, enough, words, t.rows.characters, t.rows.frame, t.rows.nibbles, t.echo, t.pec, t.alive, check, t.count)

  -- an accepted line passed them all
  pub accepted_takes : number_of (judge_of q line room) ≡ 0 → Taken q line room
  unfolding judge_of rows_of screen_rows byte_rows
  accepted_takes e =
      let row = each_passed (rows_of q line room) (accepted_passed (first_fault (rows_of q line room)) (taken_of q (bytes_of line)) e) in
      record {
        good = asked_is_so Question (good_question q) (row 0);
        enough = leb-true (shape_of q).values room (asked_is_so Room (leb (shape_of q).values room) (row 1));
        words = eqb-true (length line) (shape_of q).words (asked_is_so Length (eqb (length line) (shape_of q).words) (row 2));
        rows = record {
          characters = found_none Character (first_no_character line) (row 3);
          frame = asked_is_so Frame (framed line) (row 4);
          nibbles = found_none Manchester (first_no_nibble line) (row 5);
        };
        echo = asked_is_so Echo (echoed q (bytes_of line)) (row 6);
        pec = asked_is_so Pec (pec_right q (bytes_of line)) (row 7);
        alive = asked_is_so Alive (alive_right q (bytes_of line)) (row 8);
        check = eqb-true (check_byte q (bytes_of line)) 0 (asked_is_so (Check (check_byte q (bytes_of line))) (eqb (check_byte q (bytes_of line)) 0) (row 9));
        count = asked_is_so (Count (byte_in (bytes_of line) 2)) (count_right q (bytes_of line)) (row 10);
      }

-- ---- values are handed out by reads alone, as many as they carry

taken_values : (q : asked.Question) (bytes : List ℕ) (m : ℕ) → taken_of q bytes ≡ Ok (Values m) → (m ≡ (shape_of q).values) × (3 ≤ q.kind)
taken_values q bytes m e =
    ⊎_elim
    (λ (low : q.kind < 3). absurd (⊎_elim
    (λ hello. let h = hello_taken q bytes hello in let z : ◌≡◌ {A = ℕ} 0 1 = cc in omega arith)
    (λ lo. let w = write_taken q bytes lo (omega arith) in let z : ◌≡◌ {A = ℕ} 0 1 = cc in omega arith)
    (eq-zero-or-pos q.kind)))
    (λ read. (let r = read_taken q bytes read in cc, read)) (below_or_not q.kind 3)

pub record Carries (q : asked.Question) (line : List ℕ) (room m : ℕ) : Type 0 where
  pub taken : Taken q line room
  pub values : m ≡ (shape_of q).values
  pub read : 3 ≤ q.kind

pub carries : (q : asked.Question) (line : List ℕ) (room m : ℕ) → judge_of q line room ≡ Ok (Values m) → Carries q line room m
carries q line room m e =
    let taken = accepted_takes q line room (ap number_of e) in
    let is = taken_values q (bytes_of line) m (sym (taken_reads q line room taken) ∙ e) in
    record { taken = taken; values = is.0; read = is.1 }

-- values come only from an answer that carries them
pub some_values : (q : asked.Question) (line : List ℕ) (room : ℕ) → 0 < values_taken (judge_of q line room)
    → Carries q line room (values_taken (judge_of q line room))
some_values q line room = by_reading (judge_of q line room) refl
  where
    by_reading : (r : Result Answer Refusal) → judge_of q line room ≡ r → 0 < values_taken r → Carries q line room (values_taken r)
    by_reading (Ok (Counted n)) e h = absurd (omega arith)
    by_reading (Ok Written) e h = absurd (omega arith)
    by_reading (Ok (Values m)) e h = carries q line room m e
    by_reading (Err why) e h = absurd (omega arith)

-- they fit the output, and there are never more than 32
pub values_fit : (q : asked.Question) (line : List ℕ) (room : ℕ)
    → (values_taken (judge_of q line room) ≤ 32) × (values_taken (judge_of q line room) ≤ room)
values_fit q line room =
    ⊎_elim (λ none. (omega arith, omega arith))
    (λ some. let c = some_values q line room some in
    (omega (arith, c.values, good_values q c.taken.good), omega (arith, c.values, c.taken.enough)))
    (eq-zero-or-pos (values_taken (judge_of q line room)))

-- and the line has the bytes that carry them
pub values_carried : (q : asked.Question) (line : List ℕ) (room : ℕ) → 2 * values_taken (judge_of q line room) ≤ byte_count line - 2
values_carried q line room =
    ⊎_elim (λ none. omega arith)
    (λ some. let c = some_values q line room some in omega (arith, c.values, c.taken.words, (read_shape q c.read).words))
    (eq-zero-or-pos (values_taken (judge_of q line room)))
