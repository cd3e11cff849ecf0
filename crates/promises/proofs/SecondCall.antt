-- The second call is as promised: the laws of `parts` and `acceptance`, said of the call that `read` answers beside it.
use mathlib.Core.Path.{◌≡◌, refl, sym, ap, subst, ◌∙◌}
use mathlib.Core.Bool.{true}
use mathlib.Core.Logic.{⊎_elim}
use mathlib.Core.List.{List, [], ◌∷◌}
use Prim.Native.Nat.{ℕ, ◌+◌, ◌*◌, ◌≤◌, ◌<◌}
use native.Mathlib.Nat.{eq-zero-or-pos}
use native.Mathlib.Omega.{arith}
use lib.ListN.{length}
use Rattle.std.specs.Prelude.{Result}
use Rattle.lines.specs.Line.{bytes_in}
use Rattle.packing.specs.Words.{words_of, line_on}
use Rattle.questions.specs.Question.{covers}
use Rattle.questions.specs.Shape.{shape_of}
use Rattle.questions.specs.declared.question.Question.{Question}
use Rattle.readings.specs.Reading.{values_taken}
use Rattle.readings.specs.declared.Refusal.{Refusal}
use Rattle.readings.specs.declared.Taken.{Taken}
use Rattle.judging.proofs.Accepted.{some_values}
use Rattle.judging.proofs.Bounds.{enough_room}
use Rattle.reader.specs.Read.{ReadDone}
use Rattle.parts.specs.Part.{values_found, start_of, part_of}
use Rattle.parts.proofs.Part.{no_part, not_put_to, starts, no_start_no_place, place_there, part_there, inside}
use Rattle.acceptance.specs.Part.{part_value}
use Rattle.acceptance.proofs.SecondCall.{part_has_four, second_call_agrees}
use Rattle.c_parts.specs.PartBytes.{packed_start, part_in}
use Rattle.promises.specs.CSide.{upper_half}
use Rattle.promises.specs.SecondCall.{StartsAt, SecondCall}

module _ (q : Question) (line before after : List ℕ) (r : Result Taken Refusal) (done : ReadDone q line before after r) where
  -- with room enough, the second call finds as many values as `read` took
  same_found : (shape_of q).values ≤ length before → values_found q line ≡ values_taken r
  same_found fits = sym (ap values_taken (done.says ∙ enough_room q line (length before) fits))

  same_taken : 1 ≤ values_taken r → values_found q line ≡ values_taken r
  same_taken some = same_found (some_values q line (length before) (omega (arith, ap values_taken done.says))).taken.enough

  found : 1 ≤ values_taken r → 0 < values_found q line
  found some = omega (arith, same_taken some)

-- four characters carry two bytes, and these one word
two_bytes : (part : List ℕ) → length part ≡ 4 → words_of (bytes_in part) ≡ part_value part ∷ []
unfolding words_of bytes_in
two_bytes [] size = absurd (omega arith)
two_bytes (a ∷ []) size = absurd (omega arith)
two_bytes (a ∷ b ∷ []) size = absurd (omega arith)
two_bytes (a ∷ b ∷ c ∷ []) size = absurd (omega arith)
two_bytes (a ∷ b ∷ c ∷ d ∷ []) size = refl
two_bytes (a ∷ b ∷ c ∷ d ∷ e ∷ part) size = absurd (omega arith)

-- where there is a place the part has four words, so that it is not empty
not_empty : (q : Question) (line : List ℕ) (a : ℕ) → 1 ≤ start_of q line a → part_of q line a ≡ [] → ⊥
not_empty q line a some none =
    let there = starts q line a some in omega (arith, part_has_four q line a there.0 there.1, ap length none)

-- a part starts where the number of values that `read` took says
place : (q : Question) (line before after : List ℕ) (r : Result Taken Refusal) → ReadDone q line before after r → 1 ≤ values_taken r
    → (a : ℕ) → covers q a ≡ true → StartsAt q a (values_taken r) (start_of q line a)
place q line before after r done some a covered =
    let there = inside q line a (found q line before after r done some) covered in
    omega (arith, there.start, there.order, same_taken q line before after r done some)

pub second_call : SecondCall
unfolding part_in
second_call = record {
  handed_back = λ q line before after r done some a covered part is.
      let there = found q line before after r done some in (
        start_of q line a,
        place q line before after r done some a covered,
        record {
          there = is ∙ sym (part_there q line a there covered);
          four = ap length is ∙ part_has_four q line a there covered;
          carries = two_bytes part (ap length is ∙ part_has_four q line a there covered)
              ∙ ap (λ (v : ℕ). v ∷ []) (ap part_value is ∙ sym (second_call_agrees q line before after r done some a covered));
        },
      );
  not_covered = λ q line a out part is. is ∙ sym (not_put_to q line a out);
  nothing_taken = λ q line before after r done fits none a part is.
      is ∙ sym (no_part q line a (same_found q line before after r done fits ∙ none));
  in_bytes = λ q line before after reading done some a covered r is.
      let words = line_on line in
      let packed : r ≡ 4 + 65536 * start_of q words a = is ∙ sym (ap packed_start (place_there q words a (found q words before after reading done some) covered)) in
      let upper : start_of q words a ≡ upper_half r = omega (arith, packed) in
      (omega (arith, packed), subst (StartsAt q a (values_taken reading)) upper (place q words before after reading done some a covered));
  none_in_bytes = λ q line part a r is says none.
      says
      ∙ ⊎_elim (λ zero. ap packed_start (no_start_no_place q (line_on line) a zero)) (λ some. absurd (not_empty _ (line_on line) a some (sym is ∙ none))) (eq-zero-or-pos _);
}
