-- A device hears on the line between the question that was put: its fields as far as they stand on the line, and the values put in so far.
use mathlib.Core.Path.{◌≡◌, refl, sym, ap, ◌∙◌}
use mathlib.Core.List.{List}
use Prim.Native.Nat.{ℕ, zero, suc, ◌+◌, ◌*◌, ◌%◌, ◌≤◌}
use native.Mathlib.Omega.{arith}
use lib.ListN.{length}
use Rattle.remainder.specs.Turned.{Bytes}
use Rattle.lines.specs.Line.{line_of, byte_at}
use Rattle.questions.specs.Shape.{shape_of}
use Rattle.questions.specs.declared.question.Question.{Question}
use Rattle.questions.proofs.Good.{good_alive}
use Rattle.acceptance.specs.Answer.{Sendable}
use Rattle.hearing.specs.Hear.{kind_heard, carried, alive_place, plainly, heard}
use Rattle.underway.specs.OnTheWay.{on_the_way, wire_of}
use Rattle.hearing.proofs.Hearing.{heard_either}
use Rattle.roundtrip.specs.Between.{For}
use Rattle.roundtrip.proofs.Alike.{Alike}
use Rattle.roundtrip.proofs.KindTells.{kind_back, first_alike, values_alike}
use Rattle.roundtrip.proofs.LengthTells.{told_off, told_on, words_off, seed_place}
use Rattle.roundtrip.proofs.BytesBetween.{reg_byte, value_bytes}
use Rattle.roundtrip.proofs.AliveAndValues.{room_before, words_here, first_here, seed_byte, wire_back}

module _ (q : Question) (n k : ℕ) (f : For q n k) (sends : Sendable q) (added : ℕ) (wire : List ℕ) (small : Bytes wire) (m : ℕ) (size : length wire ≡ 2 * m)
    (some : 1 ≤ q.kind) (put : m ≡ carried q.kind k) where
  abbrev pub heard_line : List ℕ
  heard_line = line_of (on_the_way q k added wire)

  plain_kind : (plainly n k heard_line).kind ≡ q.kind
  unfolding plainly
  plain_kind = ap (kind_heard k) (first_here q n k f sends added wire small m size some put) ∙ kind_back q n k f

  heard_kind : (heard n k heard_line).kind ≡ q.kind
  heard_kind = heard_either n k heard_line (λ (x : Question). x.kind ≡ q.kind) plain_kind plain_kind

  heard_reg : (heard n k heard_line).reg ≡ q.reg
  unfolding plainly
  heard_reg =
      let here = reg_byte q f.good sends k added wire small m size some (room_before q n k m f some put) in
      heard_either n k heard_line (λ (x : Question). x.reg ≡ q.reg) here here

  heard_value : q.kind ≤ 2 → (heard n k heard_line).value ≡ q.value
  unfolding plainly
  heard_value low =
      let here = value_bytes q f.good sends k added wire small m size some (room_before q n k m f some put) low in
      heard_either n k heard_line (λ (x : Question). x.value ≡ q.value) here here

  heard_seed : q.alive ≡ 1 → (heard n k heard_line).seed ≡ (q.seed + added) % 256
  heard_seed on = heard_either n k heard_line (λ (x : Question). x.seed ≡ (q.seed + added) % 256) plain_seed plain_seed
    where
      plain_seed : (plainly n k heard_line).seed ≡ (q.seed + added) % 256
      plain_seed = plain_place ∙ seed_byte q n k f sends added wire small m size some put on
        where
          plain_place : (plainly n k heard_line).seed ≡ byte_at heard_line (alive_place q.kind k)
          plain_place = seed_place n k heard_line q.kind plain_kind

  heard_chain : (heard n k heard_line).n ≡ n
  unfolding plainly
  heard_chain = heard_either n k heard_line (λ (x : Question). x.n ≡ n) refl refl

  heard_device : (heard n k heard_line).device ≡ k
  unfolding plainly
  heard_device = heard_either n k heard_line (λ (x : Question). x.device ≡ k) refl refl

  heard_alive : (heard n k heard_line).alive ≡ q.alive
  heard_alive = by_alive q.alive refl
    where
      p : Question
      p = plainly n k heard_line

      words : length heard_line ≡ (shape_of p).words + 2 * q.alive
      words = words_here q n k f sends added wire small m size some put ∙ words_off n k heard_line q f plain_kind some

      by_alive : (a : ℕ) → q.alive ≡ a → (heard n k heard_line).alive ≡ q.alive
      by_alive zero e = told_off n k heard_line (omega (arith, words)) ∙ sym e
      by_alive (suc zero) e = told_on n k heard_line (λ same. absurd (omega (arith, words, same))) ∙ sym e
      by_alive (suc (suc a)) e = absurd (omega (arith, good_alive q f.good))

  pub heard_alike : Alike q (heard n k heard_line) added
  heard_alike = record {
    kind = heard_kind;
    first = first_alike q (heard n k heard_line) n k f heard_kind heard_chain heard_device some;
    values = values_alike q (heard n k heard_line) n k f heard_kind heard_chain heard_device some;
    reg = heard_reg;
    value = heard_value;
    alive = heard_alive;
    seed = heard_seed;
  }

  -- and the values heard
  pub wire_heard : 3 ≤ q.kind → wire_of heard_line (carried (heard n k heard_line).kind k) ≡ wire
  wire_heard reads = ap (λ (x : ℕ). wire_of heard_line (carried x k)) heard_kind ∙ ap (wire_of heard_line) (sym put) ∙ wire_back q n k f sends added wire small m size some put reads
