-- The second call and the first agree: the part handed back for a device, decoded, is the value that `read` gave for that device.
use mathlib.Core.Path.{◌≡◌, sym, ap, ap₂, ◌∙◌}
use mathlib.Core.Bool.{true}
use mathlib.Core.List.{List}
use Prim.Native.Nat.{ℕ, ◌+◌, ◌-◌, ◌*◌, ◌≤◌, ◌<◌}
use native.Mathlib.Omega.{arith}
use lib.Dec.{lit<}
use lib.ListN.{length, get_or, take, drop, length-take, length-drop, get_or-append}
use lib.Seq.{get_or-take, get_or-drop}
use Rattle.std.specs.Prelude.{Result}
use Rattle.characters.specs.Nibble.{true_bits}
use Rattle.lines.specs.Line.{byte_at, bytes_of}
use Rattle.lines.proofs.Line.{length_bytes, bytes_at}
use Rattle.lines.specs.Write.{at_front}
use Rattle.questions.specs.Question.{covers}
use Rattle.questions.specs.Shape.{shape_of}
use Rattle.questions.specs.declared.question.Question.{Question}
use Rattle.readings.specs.Reading.{values_taken}
use Rattle.judging.specs.Judge.{judge_of}
use Rattle.reader.specs.Read.{values_on, ReadDone}
use Rattle.reader.proofs.Values.{value_at, handed_number}
use Rattle.parts.specs.Part.{order_of, values_found, start_of, part_of}
use Rattle.readings.specs.declared.Refusal.{Refusal}
use Rattle.readings.specs.declared.Taken.{Taken}
use Rattle.judging.proofs.Accepted.{some_values}
use Rattle.judging.proofs.Bounds.{enough_room}
use Rattle.parts.proofs.Part.{found_carried, inside, part_there}
use Rattle.acceptance.specs.Part.{part_value}

-- four characters from a place, read as a value
part_value_lem : (line : List ℕ) (m k start : ℕ) → k < m → 2 * m + 2 ≤ length (bytes_of line) → start ≡ 5 + 4 * (m - 1 - k)
    → part_value (take 4 (drop start line)) ≡ get_or (values_on line m) k 0
unfolding byte_at
part_value_lem line m k start order carried at =
    let x = m - 1 - k in
    let count = length_bytes line in
    let p0 : start + 0 ≡ 1 + 2 * (2 + 2 * x) = omega arith in
    let p1 : start + 1 ≡ 2 + 2 * (2 + 2 * x) = omega arith in
    let p2 : start + 2 ≡ 1 + 2 * (2 + 2 * x + 1) = omega arith in
    let p3 : start + 3 ≡ 2 + 2 * (2 + 2 * x + 1) = omega arith in
    let word : (j i : ℕ) → j < 4 → start + j ≡ i → get_or (take 4 (drop start line)) j 0 ≡ get_or line i 0 =
    λ j i h e. get_or-take 4 (drop start line) j 0 h ∙ get_or-drop start line j 0 ∙ ap (λ (k : ℕ). get_or line k 0) e in
    ap₂ (λ (low high : ℕ). low + 256 * high)
    (ap₂ (λ (a b : ℕ). true_bits a + 16 * true_bits b) (word 0 _ (lit< tt) p0) (word 1 _ (lit< tt) p1))
    (ap₂ (λ (a b : ℕ). true_bits a + 16 * true_bits b) (word 2 _ (lit< tt) p2) (word 3 _ (lit< tt) p3))
    ∙ sym (ap₂ (λ (low high : ℕ). low + 256 * high) (bytes_at line (2 + 2 * x) (omega arith)) (bytes_at line (2 + 2 * x + 1) (omega arith)))
    ∙ value_at (bytes_of line) m carried k order

module _ (q : Question) (line : List ℕ) (a : ℕ) (some : 0 < values_found q line) (put_to : covers q a ≡ true) where
  -- decoded, the part is the device's value among those that `read` hands out
  pub part_is_the_value : part_value (part_of q line a) ≡ get_or (values_on line (values_found q line)) (order_of q a) 0
  part_is_the_value =
      let at = inside q line a some put_to in
      ap part_value (sym (part_there q line a some put_to))
      ∙ part_value_lem line (values_found q line) (order_of q a) (start_of q line a) at.order (found_carried q line a some put_to) at.start

  -- it has four characters
  pub part_has_four : length (part_of q line a) ≡ 4
  part_has_four =
      let start = start_of q line a in
      ap length (sym (part_there q line a some put_to)) ∙ length-take 4 (drop start line)
      ∙ omega (arith, (inside q line a some put_to).within, length-drop start line)

-- After a `read` that handed out values, the output holds at a device's place what the second call's part says.
pub second_call_agrees : (q : Question) (line before after : List ℕ) (r : Result Taken Refusal) → ReadDone q line before after r → 0 < values_taken r
    → (a : ℕ) → covers q a ≡ true → get_or after (order_of q a) 0 ≡ part_value (part_of q line a)
second_call_agrees q line before after r done some a put_to =
    let verdict = judge_of q line (length before) in
    let positive : 0 < values_taken verdict = omega (arith, ap values_taken done.says) in
    let c = some_values q line (length before) positive in
    let same : values_taken verdict ≡ values_found q line = ap values_taken (enough_room q line (length before) c.taken.enough) in
    let there : 0 < values_found q line = omega arith in
    let values = values_on line (values_found q line) in
    let below : order_of q a < length values = omega (arith, handed_number q line (shape_of q).values, (inside q line a there put_to).order) in
    ap (λ (l : List ℕ). get_or l (order_of q a) 0) (done.leaves ∙ ap (λ (m : ℕ). at_front (values_on line m) before) same)
    ∙ get_or-append values (drop (length values) before) 0 (order_of q a) below
    ∙ sym (part_is_the_value q line a there put_to)
