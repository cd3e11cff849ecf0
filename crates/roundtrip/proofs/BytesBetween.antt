-- The bytes on the line between: how many there are, the command byte, the register, the value of a write, and the values put into a read.
use mathlib.Core.Path.{◌≡◌, sym, ap, ap₂, ◌∙◌, subst}
use mathlib.Core.Bool.{true}
use mathlib.Core.Logic.{⊎_elim}
use mathlib.Core.List.{List, [], ◌∷◌, ◌++◌}
use Prim.Native.Nat.{ℕ, zero, suc, ◌+◌, ◌*◌, ◌/◌, ◌%◌, ◌≤◌, ◌<◌}
use native.Mathlib.Omega.{arith}
use lib.Dec.{lit<}
use lib.ListN.{length, get_or, length-append, get_or-append}
use lib.Seq.{get_or-drop}
use Rattle.ground.proofs.Test.{below_or_not}
use Rattle.remainder.specs.Turned.{Bytes}
use Rattle.pec.specs.Pec.{pec_of}
use Rattle.lines.specs.Line.{line_of, byte_at}
use Rattle.lines.proofs.Line.{length_line, byte_of_line}
use Rattle.questions.specs.Question.{good_question}
use Rattle.questions.specs.Shape.{shape_of}
use Rattle.questions.specs.Bytes.{low_high, alive_byte, sealed, fill_pairs, write_covered}
use Rattle.questions.specs.declared.question.Question.{Question}
use Rattle.questions.proofs.Good.{good_alive, good_first, write_shape, read_shape}
use Rattle.acceptance.specs.Answer.{Sendable}
use Rattle.acceptance.proofs.Wire.{bytes_append, bytes_cons, no_bytes, two_bytes}
use Rattle.acceptance.proofs.Sealed.{length_alive, length_sealed, sealed_bytes}
use Rattle.underway.specs.OnTheWay.{on_the_way}
use Rattle.underway.proofs.Way.{read_on_way, pairs_left, way_write, way_read, read_size}

pub inside : (q : Question) (added : ℕ) (wire rest : List ℕ) (i : ℕ) → i < length wire → get_or (sealed q added (read_on_way q wire) ++ rest) (suc (suc i)) 0 ≡ get_or wire i 0
unfolding sealed
inside q added wire rest i h =
    let covered = read_on_way q wire in
    let check = wire ++ (0 ∷ []) in
    let longer : i < length check = omega (arith, length-append wire (0 ∷ [])) in
    let longest : i < length (check ++ (pec_of covered ∷ alive_byte q added)) = omega (arith, length-append check (pec_of covered ∷ alive_byte q added)) in
    get_or-append (check ++ (pec_of covered ∷ alive_byte q added)) rest 0 i longest
    ∙ get_or-append check (pec_of covered ∷ alive_byte q added) 0 i longer ∙ get_or-append wire (0 ∷ []) 0 i h

pairs_bytes : (p : ℕ) → Bytes (fill_pairs p)
unfolding fill_pairs
pairs_bytes zero = no_bytes
pairs_bytes (suc p) = bytes_cons 0xC2 (0xD3 ∷ fill_pairs p) (lit< tt) (bytes_cons 0xD3 (fill_pairs p) (lit< tt) (pairs_bytes p))

module _ (q : Question) (good : good_question q ≡ true) (sends : Sendable q) (count added : ℕ) (wire : List ℕ) (small : Bytes wire) (m : ℕ)
    (size : length wire ≡ 2 * m) (some : 1 ≤ q.kind) (room : 3 ≤ q.kind → m ≤ (shape_of q).values) where
  abbrev pub bytes : List ℕ
  bytes = on_the_way q count added wire

  abbrev pub line : List ℕ
  line = line_of bytes

  first_small : (shape_of q).first < 256
  first_small = good_first q (good)

  alive_small : q.alive ≤ 1
  alive_small = good_alive q (good)

  write_covered_bytes : Bytes (write_covered q)
  write_covered_bytes =
      bytes_cons (shape_of q).first (q.reg ∷ low_high q.value) first_small
      (bytes_cons q.reg (low_high q.value) sends.reg (two_bytes q.value sends.value))

  read_covered_bytes : Bytes (read_on_way q wire)
  read_covered_bytes =
      bytes_cons (shape_of q).first (q.reg ∷ (wire ++ (0 ∷ []))) first_small
      (bytes_cons q.reg (wire ++ (0 ∷ [])) sends.reg (bytes_append wire (0 ∷ []) small (bytes_cons 0 [] (lit< tt) no_bytes)))

  pub line_words : length line ≡ (shape_of q).words
  line_words =
      length_line (on_the_way q count added wire) ∙ ⊎_elim
      (λ (low : q.kind < 3). omega (arith, ap length (way_write q count added wire some (omega arith)), length_sealed q added alive_small (write_covered q), (write_shape q some (omega arith)).words))
      (λ (reads : 3 ≤ q.kind). omega (arith, ap length (way_read q count added wire reads), read_size q added wire, length_alive q added alive_small, (read_shape q reads).words, room reads))
      (below_or_not q.kind 3)

  left_bytes : Bytes (pairs_left q wire)
  left_bytes i =
      let pairs = fill_pairs (shape_of q).values in
      omega (arith, get_or-drop (length wire) pairs i 0, pairs_bytes (shape_of q).values (length wire + i))

  way_bytes : Bytes bytes
  way_bytes =
      ⊎_elim
      (λ (low : q.kind < 3). subst Bytes (sym (way_write q count added wire some (omega arith))) (sealed_bytes q added alive_small (write_covered q) write_covered_bytes))
      (λ (reads : 3 ≤ q.kind). subst Bytes (sym (way_read q count added wire reads))
      (bytes_append (sealed q added (read_on_way q wire)) (pairs_left q wire) (sealed_bytes q added alive_small (read_on_way q wire) read_covered_bytes) left_bytes))
      (below_or_not q.kind 3)

  four : 4 ≤ length bytes
  four =
      ⊎_elim
      (λ (low : q.kind < 3). omega (arith, length_line bytes, line_words, (write_shape q some (omega arith)).words))
      (λ (reads : 3 ≤ q.kind). omega (arith, length_line bytes, line_words, (read_shape q reads).words, room reads))
      (below_or_not q.kind 3)

  pub at : (i : ℕ) → i < length bytes → byte_at line i ≡ get_or bytes i 0
  at i h = byte_of_line bytes way_bytes i h

  pub first_byte : byte_at line 0 ≡ (shape_of q).first
  unfolding sealed
  first_byte =
      at 0 (omega (arith, four))
      ∙ ⊎_elim (λ (low : q.kind < 3). ap (λ (l : List ℕ). get_or l 0 0) (way_write q count added wire some (omega arith)))
      (λ (reads : 3 ≤ q.kind). ap (λ (l : List ℕ). get_or l 0 0) (way_read q count added wire reads)) (below_or_not q.kind 3)

  pub reg_byte : byte_at line 1 ≡ q.reg
  unfolding sealed
  reg_byte =
      at 1 (omega (arith, four))
      ∙ ⊎_elim (λ (low : q.kind < 3). ap (λ (l : List ℕ). get_or l 1 0) (way_write q count added wire some (omega arith)))
      (λ (reads : 3 ≤ q.kind). ap (λ (l : List ℕ). get_or l 1 0) (way_read q count added wire reads)) (below_or_not q.kind 3)

  pub value_bytes : q.kind ≤ 2 → byte_at line 2 + 256 * byte_at line 3 ≡ q.value
  unfolding sealed
  value_bytes low =
      ap₂ (λ (x y : ℕ). x + 256 * y)
      (at 2 (omega (arith, four)) ∙ ap (λ (l : List ℕ). get_or l 2 0) (way_write q count added wire some low))
      (at 3 (omega (arith, four)) ∙ ap (λ (l : List ℕ). get_or l 3 0) (way_write q count added wire some low))
      ∙ joined q.value
    where
      joined : (v : ℕ) → v % 256 + 256 * (v / 256) ≡ v
      joined v = omega arith
