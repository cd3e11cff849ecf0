-- Laws of a command on its way: its bytes form by form, and its length, which no device changes.
use Rattle.std.proofs.Common.{◌≡◌, ℕ, zero, suc, ◌+◌, ◌-◌, ◌*◌, ◌%◌, ◌<◌, ◌≤◌, Bool, true, false, cond, eqb, List, [], ◌∷◌, ◌++◌, length, drop, sym, refl, ap, ◌∙◌, ⊎_elim, eq-zero-or-pos, arith, length-append, length-drop}
use native.Mathlib.Nat.{sub-zero}
use lib.Seq.{drop-nil}
use Rattle.ground.proofs.Test.{below_or_not}
use Rattle.questions.specs.Question.{good_question}
use Rattle.questions.specs.Shape.{shape_of}
use Rattle.questions.specs.Bytes.{low_high, alive_byte, sealed, fill_pairs, write_covered}
use Rattle.questions.specs.declared.question.Question.{Question}
use Rattle.questions.proofs.ByKind.{of_hello, of_write, of_read}
use Rattle.questions.proofs.Bytes.{sealed_size, length_pairs}
use Rattle.questions.proofs.Good.{good_values}
use Rattle.underway.specs.OnTheWay.{on_the_way}

-- the covered bytes of a read on its way
abbrev pub read_on_way : Question → (wire : List ℕ) → List ℕ
read_on_way q wire = (shape_of q).first ∷ q.reg ∷ (wire ++ (0 ∷ []))

-- the fill bytes that values have not yet taken the place of
abbrev pub pairs_left : Question → (wire : List ℕ) → List ℕ
pairs_left q wire = drop (length wire) (fill_pairs (shape_of q).values)

-- of whole values they are whole pairs, one for each value still to come
pub pairs_left_lem : (n m : ℕ) → drop (2 * m) (fill_pairs n) ≡ fill_pairs (n - m)
unfolding fill_pairs
pairs_left_lem n zero = ap fill_pairs (sym (sub-zero n))
pairs_left_lem zero (suc m) = let none : 0 - suc m ≡ 0 = omega arith in drop-nil (2 * suc m) ∙ sym (ap fill_pairs none)
pairs_left_lem (suc n) (suc m) =
    let two : 2 * suc m ≡ suc (suc (2 * m)) = omega arith in
    let less : suc n - suc m ≡ n - m = omega arith in
    ap (λ (k : ℕ). drop k (0xC2 ∷ 0xD3 ∷ fill_pairs n)) two ∙ pairs_left_lem n m ∙ sym (ap fill_pairs less)

module _ (q : Question) (count added : ℕ) (wire : List ℕ) where
  pub way_hello : q.kind ≡ 0 → on_the_way q count added wire ≡ (shape_of q).first ∷ 0 ∷ count ∷ []
  unfolding on_the_way
  way_hello e = of_hello q.kind _ _ _ e

  pub way_write : 1 ≤ q.kind → q.kind ≤ 2 → on_the_way q count added wire ≡ sealed q added (write_covered q)
  unfolding on_the_way
  way_write lo hi = of_write q.kind _ _ _ lo hi

  pub way_read : 3 ≤ q.kind → on_the_way q count added wire ≡ sealed q added (read_on_way q wire) ++ pairs_left q wire
  unfolding on_the_way
  way_read lo = of_read q.kind _ _ _ lo

-- ---- lengths

module _ (q : Question) where
  alive_length : (a b : ℕ) → length (alive_byte q a) ≡ length (alive_byte q b)
  alive_length a b = either (eqb q.alive 1)
    where
      either : (t : Bool) → length (cond t ((q.seed + a) % 256 ∷ []) []) ≡ length (cond t ((q.seed + b) % 256 ∷ []) [])
      either true = refl
      either false = refl

  alive_most : (a : ℕ) → length (alive_byte q a) ≤ 1
  alive_most a = either (eqb q.alive 1)
    where
      either : (t : Bool) → length (cond t ((q.seed + a) % 256 ∷ []) []) ≤ 1
      either true = omega arith
      either false = omega arith

  pub sealed_most : (a : ℕ) (covered : List ℕ) → length (sealed q a covered) ≤ length covered + 2
  sealed_most a covered = omega (arith, sealed_size q a covered, alive_most a)

  pub read_size : (a : ℕ) (w : List ℕ) → length (sealed q a (read_on_way q w) ++ pairs_left q w)
      ≡ 4 + length w + length (alive_byte q a) + (2 * (shape_of q).values - length w)
  read_size a w =
      let pairs = fill_pairs (shape_of q).values in
      omega (arith, length-append (sealed q a (read_on_way q w)) (pairs_left q w), sealed_size q a (read_on_way q w), length-append w (0 ∷ []), length-drop (length w) pairs, length_pairs (shape_of q).values)

  -- a device hands on a line of equal length: its own value takes the place of a fill pair
  pub equal_length : (count count' added added' own m : ℕ) (wire : List ℕ) → length wire ≡ 2 * m → (3 ≤ q.kind → m < (shape_of q).values)
      → length (on_the_way q count' added' (low_high own ++ wire)) ≡ length (on_the_way q count added wire)
  equal_length count count' added added' own m wire size room =
      let more = low_high own ++ wire in
      ⊎_elim
      (λ (low : q.kind < 3). ⊎_elim
      (λ e. ap length (way_hello q count' added' more e) ∙ sym (ap length (way_hello q count added wire e)))
      (λ lo. omega (arith, ap length (way_write q count' added' more lo (omega arith)), ap length (way_write q count added wire lo (omega arith)), sealed_size q added' (write_covered q), sealed_size q added (write_covered q), alive_length added added'))
      (eq-zero-or-pos q.kind))
      (λ lo. let less = room lo in
      omega (arith, ap length (way_read q count' added' more lo), ap length (way_read q count added wire lo), read_size added' more, read_size added wire, alive_length added added'))
      (below_or_not q.kind 3)

  -- a good question's command has 69 bytes at most, on its way too
  pub way_most : good_question q ≡ true → (count added m : ℕ) (wire : List ℕ) → length wire ≡ 2 * m → (3 ≤ q.kind → m ≤ (shape_of q).values)
      → length (on_the_way q count added wire) ≤ 69
  way_most good count added m wire size room =
      ⊎_elim
      (λ (low : q.kind < 3). ⊎_elim
      (λ e. omega (arith, ap length (way_hello q count added wire e)))
      (λ lo. omega (arith, ap length (way_write q count added wire lo (omega arith)), sealed_most added (write_covered q)))
      (eq-zero-or-pos q.kind))
      (λ lo. let less = room lo in
      omega (arith, ap length (way_read q count added wire lo), read_size added wire, alive_most added, good_values q good))
      (below_or_not q.kind 3)
