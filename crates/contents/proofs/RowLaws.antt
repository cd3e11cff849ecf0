-- What decides each of rows 7 to 11, said of plain numbers: the answers of the functions that look at one row.
use Rattle.std.specs.Prelude.{Result, Ok}
use Rattle.std.proofs.Common.{◌≡◌, ℕ, zero, suc, ◌+◌, ◌*◌, ◌%◌, ◌<◌, ◌≤◌, Bool, true, false, cond, ◌&&◌, eqb, leb, List, sym, ap, ◌∙◌, ap₂, ⊎_elim, eq-zero-or-pos, arith, eq-eqb, ne_eqb}
use Rattle.ground.proofs.Test.{below_or_not}
use Rattle.questions.specs.Question.{by_form}
use Rattle.questions.specs.Shape.{shape_of}
use Rattle.questions.specs.declared.question.Question.{Question}
use Rattle.questions.proofs.ByKind.{of_hello, of_write, of_read}
use Rattle.contents.specs.Rows.{byte_in, value_echoed, echoed, pec_held, pec_right, alive_held, alive_right, check_byte, count_right, taken_of}
use Rattle.readings.specs.declared.Refusal.{Refusal}
use Rattle.readings.specs.declared.Taken.{Taken}
use Rattle.readings.specs.declared.Taken.TheVariants.{Counted, Written, Values}

pub positive : (k : ℕ) → (k ≡ 0 → ⊥) → 1 ≤ k
positive k h = omega arith

module _ (q : Question) (bytes : List ℕ) where
  -- ---- 7 ECHO

  rest : Bool
  rest =
      by_form q.kind (eqb (byte_in bytes 1) 0) (eqb (byte_in bytes 1) q.reg && value_echoed q bytes) (eqb (byte_in bytes 1) q.reg)

  pub first_other : (byte_in bytes 0 ≡ (shape_of q).first → ⊥) → false ≡ echoed q bytes
  unfolding echoed rest
  first_other h = sym (ap (λ (t : Bool). t && rest) (ne_eqb (byte_in bytes 0) (shape_of q).first h))

  module _ (first : byte_in bytes 0 ≡ (shape_of q).first) where
    by_rest : (b : Bool) → rest ≡ b → b ≡ echoed q bytes
    unfolding echoed rest
    by_rest b e = sym (ap₂ ◌&&◌ (eq-eqb (byte_in bytes 0) (shape_of q).first first) e)

    pub hello_echo : q.kind ≡ 0 → eqb (byte_in bytes 1) 0 ≡ echoed q bytes
    unfolding rest
    hello_echo e = by_rest (eqb (byte_in bytes 1) 0) (of_hello q.kind _ _ _ e)

    pub second_other : 1 ≤ q.kind → (byte_in bytes 1 ≡ q.reg → ⊥) → false ≡ echoed q bytes
    unfolding rest
    second_other lo h =
        let other = ne_eqb (byte_in bytes 1) q.reg h in
        ⊎_elim
        (λ (w : q.kind < 3). by_rest false (of_write q.kind _ _ _ lo (omega arith) ∙ ap (λ (t : Bool). t && value_echoed q bytes) other))
        (λ r. by_rest false (of_read q.kind _ _ _ r ∙ other)) (below_or_not q.kind 3)

    pub write_echo : 1 ≤ q.kind → q.kind ≤ 2 → byte_in bytes 1 ≡ q.reg → value_echoed q bytes ≡ echoed q bytes
    unfolding rest
    write_echo lo hi e =
        by_rest (value_echoed q bytes)
        (of_write q.kind _ _ _ lo hi ∙ ap (λ (t : Bool). t && value_echoed q bytes) (eq-eqb (byte_in bytes 1) q.reg e))

    pub read_echo : 3 ≤ q.kind → byte_in bytes 1 ≡ q.reg → true ≡ echoed q bytes
    unfolding rest
    read_echo lo e = by_rest true (of_read q.kind _ _ _ lo ∙ eq-eqb (byte_in bytes 1) q.reg e)

  -- ---- 8 PEC and 9 ALIVE: the same for writes and reads

  twice : {A : Type 0} (h x : A) → 1 ≤ q.kind → by_form q.kind h x x ≡ x
  twice h x lo =
      ⊎_elim (λ (w : q.kind < 3). of_write q.kind h x x lo (omega arith)) (λ r. of_read q.kind h x x r) (below_or_not q.kind 3)

  pub hello_pec : q.kind ≡ 0 → true ≡ pec_right q bytes
  unfolding pec_right
  hello_pec e = sym (of_hello q.kind _ _ _ e)

  pub other_pec : 1 ≤ q.kind → pec_held q bytes ≡ pec_right q bytes
  unfolding pec_right
  other_pec lo = sym (twice true (pec_held q bytes) lo)

  pub hello_alive : q.kind ≡ 0 → true ≡ alive_right q bytes
  unfolding alive_right
  hello_alive e = sym (of_hello q.kind _ _ _ e)

  held : Bool
  held = eqb (byte_in bytes ((shape_of q).covered + 1)) ((q.seed + (shape_of q).acting) % 256)

  pub no_alive : 1 ≤ q.kind → (q.alive ≡ 1 → ⊥) → true ≡ alive_right q bytes
  unfolding alive_right held
  no_alive lo h = sym (twice true (alive_held q bytes) lo ∙ ap (λ (t : Bool). cond t held true) (ne_eqb q.alive 1 h))

  pub some_alive : 1 ≤ q.kind → q.alive ≡ 1
      → eqb (byte_in bytes ((shape_of q).covered + 1)) ((q.seed + (shape_of q).acting) % 256) ≡ alive_right q bytes
  unfolding alive_right held
  some_alive lo e = sym (twice true (alive_held q bytes) lo ∙ ap (λ (t : Bool). cond t held true) (eq-eqb q.alive 1 e))

  -- ---- 10 CHECK

  pub no_check : q.kind ≤ 2 → 0 ≡ check_byte q bytes
  unfolding check_byte
  no_check hi =
      ⊎_elim (λ e. sym (of_hello q.kind _ _ _ e)) (λ lo. sym (of_write q.kind _ _ _ lo hi)) (eq-zero-or-pos q.kind)

  pub read_check : 3 ≤ q.kind → byte_in bytes (2 + 2 * (shape_of q).values) ≡ check_byte q bytes
  unfolding check_byte
  read_check lo = sym (of_read q.kind _ _ _ lo)

  -- ---- 11 COUNT

  pub no_count : 1 ≤ q.kind → true ≡ count_right q bytes
  unfolding count_right
  no_count lo = sym (twice _ true lo)

  pub hello_count : q.kind ≡ 0 → (leb 1 (byte_in bytes 2) && leb (byte_in bytes 2) 32) ≡ count_right q bytes
  unfolding count_right
  hello_count e = sym (of_hello q.kind _ _ _ e)

  -- ---- what is taken

  pub hello_taken : q.kind ≡ 0 → Ok (Counted (byte_in bytes 2)) ≡ taken_of q bytes
  unfolding taken_of
  hello_taken e = sym (of_hello q.kind _ _ _ e)

  pub write_taken : 1 ≤ q.kind → q.kind ≤ 2 → (Ok Written) ≡ taken_of q bytes
  unfolding taken_of
  write_taken lo hi = sym (of_write q.kind _ _ _ lo hi)

  pub read_taken : 3 ≤ q.kind → Ok (Values (shape_of q).values) ≡ taken_of q bytes
  unfolding taken_of
  read_taken lo = sym (of_read q.kind _ _ _ lo)

  -- what is nothing of an accepted reading is nothing of this one
  pub taken_zero : (f : Result Taken Refusal → ℕ) → ((n : ℕ) → f (Ok (Counted n)) ≡ 0) → f (Ok Written) ≡ 0 → ((m : ℕ) → f (Ok (Values m)) ≡ 0) → f (taken_of q bytes) ≡ 0
  unfolding taken_of
  taken_zero f counted written values = by_kind q.kind
    where
      by_kind : (k : ℕ) → f (by_form k (Ok (Counted (byte_in bytes 2))) (Ok Written) (Ok (Values (shape_of q).values))) ≡ 0
      by_kind zero = counted (byte_in bytes 2)
      by_kind (suc zero) = written
      by_kind (suc (suc zero)) = written
      by_kind (suc (suc (suc zero))) = values (shape_of q).values
      by_kind (suc (suc (suc (suc k)))) = values (shape_of q).values
