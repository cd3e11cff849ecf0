-- Where device k looks on the line between: the alive byte stands directly after the PEC, and before the check the values put in so far.
use mathlib.Core.Path.{◌≡◌, refl, sym, ap, ap₂, ◌∙◌}
use mathlib.Core.Bool.{Bool, cond}
use mathlib.Core.Logic.{⊎_elim}
use mathlib.Core.List.{List, [], ◌∷◌, ◌++◌}
use Prim.Native.Nat.{ℕ, suc, ◌+◌, ◌*◌, ◌%◌, ◌≤◌, ◌<◌}
use native.Mathlib.Omega.{arith}
use lib.ListN.{length, get_or, length-append, get_or-append}
use lib.Seq.{ext_get_or}
use borrow.Author.Tests.{le-leb, lt-leb}
use Rattle.ground.proofs.Sweep.{tabulated_at, length_tabulated}
use Rattle.ground.proofs.Test.{below_or_not}
use Rattle.remainder.specs.Turned.{Bytes}
use Rattle.lines.specs.Line.{line_of, byte_at}
use Rattle.lines.proofs.Line.{length_line}
use Rattle.questions.specs.Shape.{shape_at, shape_of}
use Rattle.questions.specs.Bytes.{sealed, write_covered}
use Rattle.questions.specs.declared.question.Question.{Question}
use Rattle.questions.proofs.ByKind.{each_kind}
use Rattle.questions.proofs.Good.{good_kind, good_alive, write_shape, read_shape}
use Rattle.acceptance.specs.Answer.{Sendable}
use Rattle.acceptance.proofs.Sealed.{length_sealed, sealed_alive}
use Rattle.hearing.specs.Hear.{carried, alive_place}
use Rattle.underway.specs.OnTheWay.{on_the_way, wire_of}
use Rattle.underway.proofs.Way.{read_on_way, pairs_left, way_write, way_read}
use Rattle.roundtrip.specs.Between.{For}
use Rattle.roundtrip.proofs.BytesBetween.{inside, line_words, at, first_byte}

-- the values that the devices before have put in are no more than a read asks for
pub room_before : (q : Question) (n k m : ℕ) → For q n k → 1 ≤ q.kind → m ≡ carried q.kind k → 3 ≤ q.kind → m ≤ (shape_of q).values
unfolding shape_of
room_before q n k m f some put reads =
    each_kind (λ (x : ℕ). q.kind ≡ x → 3 ≤ x → m ≤ (shape_at x q).values) (λ e lo. absurd (omega arith)) (λ e lo. absurd (omega arith)) (λ e lo. absurd (omega arith))
    (λ e lo. let up = put ∙ ap (λ (x : ℕ). carried x k) e in omega (arith, up, f.within, f.chain some))
    (λ e lo. let up = put ∙ ap (λ (x : ℕ). carried x k) e in omega (arith, up)) q.kind (good_kind q f.good) refl reads

module _ (q : Question) (n k : ℕ) (f : For q n k) (sends : Sendable q) (added : ℕ) (wire : List ℕ) (small : Bytes wire) (m : ℕ) (size : length wire ≡ 2 * m)
    (some : 1 ≤ q.kind) (put : m ≡ carried q.kind k) where
  abbrev pub heard_line : List ℕ
  heard_line = line_of (on_the_way q k added wire)

  room : 3 ≤ q.kind → m ≤ (shape_of q).values
  room = room_before q n k m f some put

  pub words_here : length heard_line ≡ (shape_of q).words
  words_here = line_words q f.good sends k added wire small m size some room

  at_here : (i : ℕ) → i < length (on_the_way q k added wire) → byte_at heard_line i ≡ get_or (on_the_way q k added wire) i 0
  at_here = at q f.good sends k added wire small m size some room

  pub first_here : byte_at heard_line 0 ≡ (shape_of q).first
  first_here = first_byte q f.good sends k added wire small m size some room

  alive_here : q.alive ≤ 1
  alive_here = good_alive q f.good

  -- the alive byte stands directly after the PEC
  pub seed_byte : q.alive ≡ 1 → byte_at heard_line (alive_place q.kind k) ≡ (q.seed + added) % 256
  seed_byte on = ⊎_elim of_write of_read (below_or_not q.kind 3)
    where
      of_write : q.kind < 3 → byte_at heard_line (alive_place q.kind k) ≡ (q.seed + added) % 256
      of_write low =
          let few : q.kind ≤ 2 = omega arith in
          ap (λ (t : Bool). byte_at heard_line (cond t 5 (4 + 2 * carried q.kind k))) (le-leb q.kind 2 few)
          ∙ at_here 5 (omega (arith, length_line (on_the_way q k added wire), words_here, (write_shape q some few).words))
          ∙ ap (λ (l : List ℕ). get_or l 5 0) (way_write q k added wire some few) ∙ sealed_alive q added (write_covered q) on

      of_read : 3 ≤ q.kind → byte_at heard_line (alive_place q.kind k) ≡ (q.seed + added) % 256
      of_read reads =
          let covered = read_on_way q wire in
          let place : 4 + 2 * carried q.kind k ≡ length covered + 1 = omega (arith, length-append wire (0 ∷ []), put) in
          let within : length covered + 1 < length (sealed q added covered) = omega (arith, length_sealed q added alive_here covered) in
          ap (λ (t : Bool). byte_at heard_line (cond t 5 (4 + 2 * carried q.kind k))) (lt-leb q.kind 2 reads)
          ∙ at_here (4 + 2 * carried q.kind k) (omega (arith, length_line (on_the_way q k added wire), words_here, (read_shape q reads).words, room reads, put))
          ∙ ap₂ (λ (l : List ℕ) (i : ℕ). get_or l i 0) (way_read q k added wire reads) place
          ∙ get_or-append (sealed q added covered) (pairs_left q wire) 0 (length covered + 1) within ∙ sealed_alive q added covered on

  -- the values put in so far
  pub wire_back : 3 ≤ q.kind → wire_of heard_line m ≡ wire
  wire_back reads =
      ext_get_or 0 (wire_of heard_line m) wire (length_tabulated (byte_at heard_line) (2 * m) 2 ∙ sym size)
      (λ i h. let below : i < 2 * m = omega (arith, length_tabulated (byte_at heard_line) (2 * m) 2) in
      tabulated_at (byte_at heard_line) (2 * m) 2 i below
      ∙ at_here (2 + i) (omega (arith, length_line (on_the_way q k added wire), words_here, (read_shape q reads).words, room reads))
      ∙ ap₂ (λ (l : List ℕ) (j : ℕ). get_or l j 0) (way_read q k added wire reads) (two_more i) ∙ inner i (omega arith))
    where
      two_more : (i : ℕ) → 2 + i ≡ suc (suc i)
      two_more i = omega arith

      inner : (i : ℕ) → i < length wire → get_or (sealed q added (read_on_way q wire) ++ pairs_left q wire) (suc (suc i)) 0 ≡ get_or wire i 0
      inner i h = inside q added wire (pairs_left q wire) i h
