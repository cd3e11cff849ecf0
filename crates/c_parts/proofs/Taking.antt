-- The line that is taken is as good as the whole: what is too long to be taken is accepted by no question, so it has no part either.
use mathlib.Core.Path.{◌≡◌, sym, ap, ◌∙◌}
use mathlib.Core.Logic.{⊎_elim}
use mathlib.Core.List.{List, []}
use Rattle.std.specs.Prelude.{Some}
use Prim.Native.Nat.{ℕ, ◌≤◌, ◌<◌}
use native.Mathlib.Nat.{eq-zero-or-pos}
use native.Mathlib.Omega.{arith}
use lib.ListN.{length, take}
use Rattle.packing.specs.Words.{line_on, line_in, LineTaken}
use Rattle.packing.proofs.Taken.{whole_or_none, line_front}
use Rattle.questions.proofs.Good.{words_most}
use Rattle.questions.specs.Shape.{shape_of}
use Rattle.questions.specs.declared.question.Question.{Question}
use Rattle.judging.proofs.Accepted.{some_values}
use Rattle.parts.specs.Part.{start_of, place_found}
use Rattle.parts.proofs.Part.{starts, part_at, place_at, no_start_no_place}
use Rattle.c_parts.specs.PartBytes.{packed_start, part_in}

-- the words at the front of the lent ones are the line
pub line_taken : (bytes before after : List ℕ) (count : ℕ) → LineTaken bytes before after count → length before ≡ 140
    → take count after ≡ line_in 140 bytes
line_taken bytes before after count done room = line_front bytes before after count done ∙ ap (λ (n : ℕ). line_in n bytes) room

module _ (q : Question) (device : ℕ) where
  pub start_most : (line : List ℕ) → start_of q line device ≤ 140
  start_most line =
      ⊎_elim (λ none. omega arith) (λ some. omega (arith, (part_at q line device some).near)) (eq-zero-or-pos (start_of q line device))

  -- and so does a place that is found
  pub place_most : (line : List ℕ) (start : ℕ) → place_found q line device ≡ Some start → start ≤ 140
  place_most line start e = omega (arith, (place_at q line device start e).is, start_most line)

  empty_has_none : start_of q [] device ≡ 0
  empty_has_none =
      ⊎_elim (λ none. none) (λ some. absurd (omega (arith, (part_at q [] device some).within))) (eq-zero-or-pos (start_of q [] device))

  too_long_has_none : (line : List ℕ) → 140 < length line → start_of q line device ≡ 0
  too_long_has_none line long =
      ⊎_elim (λ none. none)
      (λ some. let c = some_values q line (shape_of q).values (starts q line device some).0 in
      absurd (omega (arith, c.taken.words, words_most q c.taken.good)))
      (eq-zero-or-pos (start_of q line device))

  -- so the part of what is taken is the part of the whole
  pub part_of_taken : (bytes : List ℕ) → packed_start (place_found q (line_in 140 bytes) device) ≡ part_in q device bytes
  unfolding part_in
  part_of_taken bytes =
      ap packed_start
      (⊎_elim
      (λ (whole : line_in 140 bytes ≡ line_on bytes). ap (λ (l : List ℕ). place_found q l device) whole)
      (λ (none : (line_in 140 bytes ≡ []) × (140 < length (line_on bytes))).
      ap (λ (l : List ℕ). place_found q l device) none.0 ∙ no_start_no_place q [] device empty_has_none
      ∙ sym (no_start_no_place q (line_on bytes) device (too_long_has_none (line_on bytes) none.1)))
      (whole_or_none 140 bytes))
