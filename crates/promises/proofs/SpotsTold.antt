-- What is told of a line is true, row by row: LENGTH, the rows on words, and the rows on bytes.
use mathlib.Core.Path.{◌≡◌, refl, sym, ap, ◌∙◌, subst}
use mathlib.Core.Bool.{Bool, true, false}
use mathlib.Core.Logic.{◌⊎◌, inl, inr, ⊎_elim}
use mathlib.Core.List.{List, get_last_d}
use Prim.Native.Nat.{ℕ, suc, ◌+◌, ◌*◌, ◌-◌, ◌%◌, ◌≤◌, ◌<◌}
use native.Mathlib.Omega.{arith}
use lib.Dec.{eqb, lit<}
use lib.ListN.{length, get_or, take, drop, length-drop}
use lib.Seq.{take_at}
use borrow.Author.Tests.{eqb-true, eqb-false}
use Rattle.std.specs.Prelude.{Some, None}
use Rattle.ground.specs.Sweep.{tabulated}
use Rattle.ground.proofs.Sweep.{length_tabulated, tabulated_same}
use Rattle.ground.proofs.Lists.{tabulated_front}
use Rattle.ground.proofs.Test.{below_or_not}
use Rattle.pec.specs.Pec.{pec_of}
use Rattle.characters.specs.Character.{preamble, stop, word_of}
use Rattle.characters.specs.Nibble.{nibble_word, is_nibble}
use Rattle.characters.proofs.Nibble.{nibble_nibble}
use Rattle.character_check.specs.Check.{is_character}
use Rattle.character_check.proofs.Pass.{preamble_character, stop_character}
use Rattle.lines.specs.Line.{byte_at, bytes_of}
use Rattle.lines.proofs.Between.{last_at}
use Rattle.lines.proofs.Line.{byte_count, length_bytes, bytes_at}
use Rattle.questions.specs.Shape.{shape_of}
use Rattle.questions.specs.declared.question.Question as asked
use Rattle.questions.proofs.Good.{hello_shape, write_shape, read_shape}
use Rattle.readings.specs.Reading.{refusal_number}
use Rattle.readings.specs.declared.Refusal.{Refusal}
use Rattle.readings.specs.declared.Refusal.TheVariants.{Length, Character, Frame, Manchester, Pec, Alive, Check, Count}
use Rattle.reasons.specs.Reason.{at_line, at_word, at_byte, last_place, at_ends, at_pec, at_alive, at_check}
use Rattle.reasons.proofs.Told.{the_first_word, the_last_word}
use Rattle.promises.specs.Rows.{check_in, count_in, Lowest}
use Rattle.promises.specs.TellMeWhy.{Passes, Told}
use Rattle.promises.proofs.RowsGiven.{never}

-- every check before this one passes
abbrev pub Early : asked.Question → List ℕ → Refusal → Type 0
Early q line named = (why : Refusal) → refusal_number why < refusal_number named → (i : ℕ) → Passes q line why i

-- ---- the line as a whole, and its words

module _ (q : asked.Question) (line : List ℕ) where
  pub told_length : Early q line Length → (length line ≡ (shape_of q).words → ⊥) → Told q line (at_line q line Length)
  told_length early other =
      record {
        place = 0;
        spot = refl;
        stood = refl;
        fails = other;
        lower_pass = λ i h. absurd (omega arith);
        earlier_pass = early;
        right = (refl, λ x e. e);
      }

  pub told_character : (i : ℕ) → Early q line (Character i) → Lowest is_character line 0 i → Told q line (at_word line (Character i) i None)
  told_character i early at =
      record {
        place = i;
        spot = refl;
        stood = refl;
        fails = λ pass. never (pass (omega (arith, at.below))) at.fails;
        lower_pass = λ j below inside. at.lower_pass j (omega arith) below;
        earlier_pass = early;
        right = (preamble, stop, lit< tt, λ inside. preamble_character, λ inside. stop_character);
      }

  nibble_order : nibble_word 1 < nibble_word 0
  unfolding nibble_word word_of
  nibble_order = lit< tt

  pub told_manchester : (i : ℕ) → Early q line (Manchester i) → Lowest is_nibble line 1 i → Told q line (at_word line (Manchester i) i None)
  told_manchester i early at =
      record {
        place = i;
        spot = refl;
        stood = refl;
        fails = λ pass. never (pass at.from (omega (arith, at.below))) at.fails;
        lower_pass = λ j below from inside. at.lower_pass j from below;
        earlier_pass = early;
        right = (nibble_word 1, nibble_word 0, nibble_order, λ from inside. nibble_nibble 1 (lit< tt), λ from inside. nibble_nibble 0 (lit< tt));
      }

  module _ (early : Early q line Frame) (long : 8 ≤ length line) where
    first : (get_or line 0 0 ≡ preamble → ⊥) → Told q line (at_word line Frame 0 (Some preamble))
    first other =
        record {
          place = 0;
          spot = refl;
          stood = refl;
          fails = λ pass. other (pass.0 refl);
          lower_pass = λ i h. absurd (omega arith);
          earlier_pass = early;
          right = ((λ e. refl, λ e. absurd (omega arith)), λ x pass. pass.0 refl);
        }

    -- the last word's place
    end : suc (last_place line) ≡ length line
    end = omega (arith, length-drop 1 line)

    last : get_or line 0 0 ≡ preamble → (get_last_d line 0 ≡ stop → ⊥) → Told q line (at_word line Frame (last_place line) (Some stop))
    last begins other =
        let place : length line - 1 ≡ last_place line = omega (arith, end) in
        record {
          place = last_place line;
          spot = refl;
          stood = refl;
          fails = λ pass. other (last_at line ∙ ap (λ (k : ℕ). get_or line k 0) place ∙ pass.1 end);
          lower_pass = λ i below. (λ e. ap (λ (k : ℕ). get_or line k 0) e ∙ begins, λ e. absurd (omega (arith, end)));
          earlier_pass = early;
          right = ((λ e. absurd (omega (arith, end)), λ e. refl), λ x pass. pass.1 end);
        }

    pub told_frame : (get_or line 0 0 ≡ preamble → ⊥) ⊎ (get_last_d line 0 ≡ stop → ⊥) → Told q line (at_ends line)
    told_frame bad = by_test (eqb (get_or line 0 0) preamble) refl bad
      where
        by_test : (t : Bool) → eqb (get_or line 0 0) preamble ≡ t → (get_or line 0 0 ≡ preamble → ⊥) ⊎ (get_last_d line 0 ≡ stop → ⊥) → Told q line (at_ends line)
        by_test false e bad = let other = eqb-false (get_or line 0 0) preamble e in subst (Told q line) (the_first_word line other) (first other)
        by_test true e (inl other) = absurd (other (eqb-true (get_or line 0 0) preamble e))
        by_test true e (inr other) = let is = eqb-true (get_or line 0 0) preamble e in subst (Told q line) (the_last_word line is) (last is other)

-- ---- the bytes of an answer that has its length

module _ (q : asked.Question) (line : List ℕ) (fits : length line ≡ (shape_of q).words) where
  -- HELLOALL's answer has three bytes; the others' those that are covered, the PEC, and with alive on one more
  hello_bytes : q.kind ≡ 0 → byte_count line ≡ 3
  hello_bytes hello = omega (arith, fits, ap (λ s. s.words) (hello_shape q hello))

  pub sealed_bytes : 1 ≤ q.kind → byte_count line ≡ (shape_of q).covered + 1 + q.alive
  sealed_bytes some =
      ⊎_elim
      (λ (low : q.kind < 3). let s = write_shape q some (omega arith) in omega (arith, fits, s.words, s.covered))
      (λ high. let s = read_shape q high in omega (arith, fits, s.words, s.covered)) (below_or_not q.kind 3)

  -- ---- 8 PEC to 11 COUNT

  same_pec : 1 ≤ q.kind → pec_of (tabulated (byte_at line) (shape_of q).covered 0) ≡ pec_of (take (shape_of q).covered (bytes_of line))
  same_pec some =
      let n = (shape_of q).covered in
      let bytes = bytes_of line in
      let many = sealed_bytes some in
      let own = tabulated (λ (i : ℕ). get_or bytes i 0) n 0 in
      let same = tabulated_same (byte_at line) (λ (i : ℕ). get_or bytes i 0) n 0 (λ k below. sym (bytes_at line k (omega (arith, many)))) in
      let front = ap (take n) (tabulated_front n bytes (omega (arith, many, length_bytes line))) in
      ap pec_of (same ∙ sym (front ∙ take_at own (drop n bytes) n (length_tabulated (λ (i : ℕ). get_or bytes i 0) n 0)))

  pub told_pec : Early q line Pec → (1 ≤ q.kind) × (get_or (bytes_of line) (shape_of q).covered 0 ≡ pec_of (take (shape_of q).covered (bytes_of line)) → ⊥)
      → Told q line (at_pec q line)
  told_pec early (some, other) =
      record {
        place = (shape_of q).covered;
        spot = refl;
        stood = sym (bytes_at line (shape_of q).covered (omega (arith, sealed_bytes some)));
        fails = λ pass. other (pass some refl);
        lower_pass = λ i below kind is. absurd (omega arith);
        earlier_pass = early;
        right = (λ kind is. same_pec some, λ x pass. pass some refl ∙ sym (same_pec some));
      }

  pub told_alive : Early q line Alive
      → (1 ≤ q.kind) × (q.alive ≡ 1) × (get_or (bytes_of line) ((shape_of q).covered + 1) 0 ≡ (q.seed + (shape_of q).acting) % 256 → ⊥)
      → Told q line (at_alive q line)
  told_alive early (some, on, other) =
      record {
        place = (shape_of q).covered + 1;
        spot = refl;
        stood = sym (bytes_at line ((shape_of q).covered + 1) (omega (arith, sealed_bytes some)));
        fails = λ pass. other (pass some on refl);
        lower_pass = λ i below kind alive is. absurd (omega arith);
        earlier_pass = early;
        right = (λ kind alive is. refl, λ x pass. pass some on refl);
      }

  pub told_check : (b : ℕ) → Early q line (Check b) → (3 ≤ q.kind) × (check_in q (bytes_of line) ≡ 0 → ⊥) → Told q line (at_check q line (Check b))
  told_check b early (read, other) =
      let many = sealed_bytes (omega arith) in
      record {
        place = 2 + 2 * (shape_of q).values;
        spot = refl;
        stood = sym (bytes_at line (2 + 2 * (shape_of q).values) (omega (arith, many, (read_shape q read).covered)));
        fails = λ pass. other (pass read refl);
        lower_pass = λ i below kind is. absurd (omega arith);
        earlier_pass = early;
        right = (λ kind is. refl, λ x pass. pass read refl);
      }

  pub told_count : (b : ℕ) → Early q line (Count b) → (q.kind ≡ 0) × ((count_in (bytes_of line) ≡ 0) ⊎ (32 < count_in (bytes_of line)))
      → Told q line (at_byte line (Count b) 2 None)
  told_count b early (hello, out) =
      record {
        place = 2;
        spot = refl;
        stood = sym (bytes_at line 2 (omega (arith, hello_bytes hello)));
        fails = λ pass. let within = pass hello refl in ⊎_elim (λ none. omega (arith, within.0)) (λ over. omega (arith, within.1)) out;
        lower_pass = λ i below kind is. absurd (omega arith);
        earlier_pass = early;
        right = (1, 2, omega arith, λ kind is. (omega arith, omega arith), λ kind is. (omega arith, omega arith));
      }
