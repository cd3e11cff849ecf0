-- The C side's damage: the bytes of a line's words are that line again, so that demand 3 on words turns them away.
use mathlib.Core.Path.{◌≡◌, refl, sym, ap, ap₂, subst, ◌∙◌}
use mathlib.Core.List.{List}
use Prim.Native.Nat.{ℕ, ◌*◌, ◌/◌, ◌≤◌}
use native.Mathlib.Omega.{arith}
use lib.ListN.{length, replicate, length-replicate}
use Rattle.std.specs.Prelude.{Ok}
use Rattle.remainder.specs.Turned.{turned, weight, Bytes}
use Rattle.lines.specs.Write.{at_front}
use Rattle.packing.specs.Words.{words_of, as_bytes}
use Rattle.packing.proofs.Back.{length_bytes, length_words, bytes_back}
use Rattle.questions.specs.declared.question.Question.{Question}
use Rattle.questions.proofs.ByKind.{of_read}
use Rattle.readings.specs.Reading.{number_of, values_taken}
use Rattle.readings.specs.declared.Taken.TheVariants.{Values}
use Rattle.judging.specs.Judge.{judge_of}
use Rattle.reader.specs.Read.{values_on}
use Rattle.acceptance.specs.Answer.Fitting.{read}
use Rattle.c_reader.specs.ReadBytes.{reading_on, ReadBytesDone}
use Rattle.promises.specs.ByNumber.{packed_number}
use Rattle.promises.specs.Demand1.{TurnedAway}
use Rattle.promises.specs.Demand3.{ReadsAll, answer_line, Damage, most_bits}
use Rattle.promises.specs.CSide.{PackedAs}
use Rattle.promises.specs.CSideDamage.{CSideDamage}
use Rattle.promises.proofs.RefusedBytes.{refused_read_bytes}
use Rattle.promises.proofs.Demand3.{values_wanted, all_values, demand_3}
use Rattle.promises.proofs.CSideLine.{line_on_lem}
use Rattle.promises.proofs.CSideAnswers.{own_number, c_side_answers}
use Rattle.promises.proofs.BytesTurned.{bytes_turned, weight_bytes}

module _ (q : Question) (values : List ℕ) (all : ReadsAll q values) where
  taken : (before after : List ℕ) (r : ℕ) → length (as_bytes values) ≤ length before → ReadBytesDone q (as_bytes (answer_line q values)) before after r
      → PackedAs r (Ok (Values q.n)) × (after ≡ at_front (as_bytes values) before)
  taken before after r room done =
      let wanted = values_wanted q all.kind in
      let reads : 3 ≤ q.kind = omega (arith, all.kind) in
      let is = (c_side_answers q (as_bytes (answer_line q values)) before).always_then after r done all.sends values (record {
        good = all.good;
        room = omega (arith, wanted, all.number, length_bytes values, room);
        answer = record { fitting = read reads (omega (arith, all.kind)) (all_values q values all); written = line_on_lem (answer_line q values) };
      }) in (
        subst (PackedAs r) (of_read q.kind _ _ _ reads ∙ ap (λ (m : ℕ). Ok (Values m)) wanted) is.1,
        is.2 ∙ ap (λ (l : List ℕ). at_front (as_bytes l) before) (of_read q.kind _ _ _ reads),
      )

  -- turned away on words, whatever the output, and so on bytes
  damaged : (masks : List ℕ) → Damage (answer_line q values) masks (most_bits q.n)
      → (before after : List ℕ) (r : ℕ) → ReadBytesDone q (as_bytes (turned (answer_line q values) masks)) before after r
      → TurnedAway (packed_number r) × (after ≡ before)
  unfolding reading_on
  damaged masks d before after r done =
      let line = turned (answer_line q values) masks in
      let blank = replicate {A = ℕ} (length before / 2) 0 in
      let judged = judge_of q line (length blank) in
      let turned_away = (demand_3.damaged q values all masks d blank (at_front (values_on line (values_taken judged)) blank) judged
      (record { says = refl; leaves = refl })).0 in
      let same : reading_on q (as_bytes line) before ≡ judged =
      ap₂ (λ (l : List ℕ) (room : ℕ). judge_of q l room) (line_on_lem line) (sym (length-replicate {A = ℕ} (length before / 2) 0)) in
      let away : TurnedAway (packed_number r) = omega (arith, own_number q (as_bytes line) before after r done, ap number_of same, turned_away) in
      (away, refused_read_bytes q (as_bytes line) before after r done away)

pub c_side_damage : CSideDamage
c_side_damage = record { undamaged = taken; damaged = damaged }

-- the same of bits turned over in the bytes themselves, one mask a byte: they are as many bits turned over in the words
pub damaged_bytes : (q : Question) (values : List ℕ) → ReadsAll q values → (masks : List ℕ) → Bytes masks
    → Damage (as_bytes (answer_line q values)) masks (most_bits q.n)
    → (before after : List ℕ) (r : ℕ) → ReadBytesDone q (turned (as_bytes (answer_line q values)) masks) before after r
    → TurnedAway (packed_number r) × (after ≡ before)
damaged_bytes q values all masks small d before after r done =
    let line = answer_line q values in
    let m = words_of masks in
    let size : length masks ≡ 2 * length line = d.every ∙ length_bytes line in
    let back : as_bytes m ≡ masks = bytes_back masks (length line) size small in
    let number : length m ≡ length line = omega (arith, length_words masks, size) in
    let same : weight masks ≡ weight m = ap weight (sym back) ∙ weight_bytes m in
    let bytes : turned (as_bytes line) masks ≡ as_bytes (turned line m) = ap (turned (as_bytes line)) (sym back) ∙ sym (bytes_turned line m (sym number)) in
    c_side_damage.damaged q values all m (record { every = number; some = omega (arith, d.some, same); few = omega (arith, d.few, same) }) before after r
    (subst (λ (l : List ℕ). ReadBytesDone q l before after r) bytes done)
