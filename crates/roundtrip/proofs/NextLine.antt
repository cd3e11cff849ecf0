-- One device further: what the next line between takes, of a device that acts on the line and of one that lets it pass.
use Rattle.std.specs.Prelude.{Option, None}
use mathlib.Core.Path.{◌≡◌, sym, ap, ap₂, ◌∙◌}
use mathlib.Core.Bool.{Bool, true, false, cond}
use mathlib.Core.Logic.{⊎_elim}
use mathlib.Core.List.{List, [], ◌∷◌, ◌++◌}
use Prim.Native.Nat.{ℕ, suc, ◌+◌, ◌≤◌, ◌<◌}
use native.Mathlib.Omega.{arith}
use lib.ListN.{length}
use Rattle.ground.proofs.Test.{below_or_not}
use Rattle.remainder.specs.Turned.{Bytes}
use Rattle.lines.specs.Line.{line_of}
use Rattle.questions.specs.Question.{covers}
use Rattle.questions.specs.Bytes.{low_high, on_wire}
use Rattle.questions.specs.declared.question.Question.{Question}
use Rattle.acceptance.specs.Answer.{Registers, Sendable}
use Rattle.questions.proofs.Wire.{length_wire, wire_next}
use Rattle.acceptance.proofs.Wire.{wire_bytes}
use Rattle.hearing.specs.Hear.{carried}
use Rattle.underway.specs.OnTheWay.{on_the_way}
use Rattle.passage.specs.Acting.{acts, handed_on}
use Rattle.passage.proofs.Passing.{left_unchanged, nothing_stored}
use Rattle.underway.proofs.Way.{way_write, way_read}
use Rattle.passage.specs.Pass.{change_asked, change_of}
use Rattle.passage.specs.declared.pass.Store.{Store}
use Rattle.twin.specs.Step.{registers_of}
use Rattle.roundtrip.specs.Between.{held, acted, put_in, line_between, For}
use Rattle.roundtrip.proofs.WhereItActs.{write_alone}
use Rattle.roundtrip.proofs.Acting.{acts_on}

-- HELLOALL's last byte counts; no other command tells how many devices have had it
uncounted : (q : Question) (count count' added : ℕ) (wire : List ℕ) → 1 ≤ q.kind → on_the_way q count added wire ≡ on_the_way q count' added wire
uncounted q count count' added wire some =
    ⊎_elim
    (λ (low : q.kind < 3). way_write q count added wire some (omega arith) ∙ sym (way_write q count' added wire some (omega arith)))
    (λ (reads : 3 ≤ q.kind). way_read q count added wire reads ∙ sym (way_read q count' added wire reads)) (below_or_not q.kind 3)

module _ (q : Question) (sends : Sendable q) (n : ℕ) (memory : List ℕ) (words : Registers memory) where
  -- what becomes of the registers of device m
  abbrev pub change_for : ℕ → Option Store
  change_for m = cond (covers q m) (change_asked q) None

  -- device m hands on the next line between, and does to its registers what the command asks of it
  pub record Next (m : ℕ) : Type 0 where
    pub hands : handed_on n m (line_between q m memory) (registers_of memory m) ≡ line_between q (suc m) memory
    pub changes : change_of n m (line_between q m memory) ≡ change_for m

  module _ (m : ℕ) (some : 1 ≤ q.kind) (registers : Registers (put_in q m memory)) where
    small : Bytes (on_wire (put_in q m memory))
    small = wire_bytes (put_in q m memory) registers

    -- a device that the command is put to
    pub next_acting : For q n m → length (put_in q m memory) ≡ carried q.kind m → acted q (suc m) ≡ acted q m + 1
        → (3 ≤ q.kind → put_in q (suc m) memory ≡ put_in q m memory ++ (held memory m q.reg ∷ [])) → covers q m ≡ true → Next m
    next_acting f size more put covered =
        let own = held memory m q.reg in
        let wire = on_wire (put_in q m memory) in
        let done = acts_on q n m f sends (acted q m) wire small (length (put_in q m memory)) (length_wire (put_in q m memory)) some size (registers_of memory m) in
        record {
          hands =
              done.hands ∙ ap line_of (⊎_elim
              (λ (low : q.kind < 3). ap (λ (x : ℕ). on_the_way q (suc m) x (low_high own ++ wire)) (sym more) ∙ write_alone q (suc m) (acted q (suc m)) (low_high own ++ wire) (on_wire (put_in q (suc m) memory)) some (omega arith))
              (λ (reads : 3 ≤ q.kind). ap₂ (λ (x : ℕ) (w : List ℕ). on_the_way q (suc m) x w) (sym more) (sym (ap on_wire (put reads) ∙ wire_next (put_in q m memory) own)))
              (below_or_not q.kind 3));
          changes = done.changes ∙ sym (ap (λ (t : Bool). cond t (change_asked q) None) covered);
        }

    -- a device that it is not put to
    pub next_passing : acts n m (line_between q m memory) ≡ false → acted q (suc m) ≡ acted q m → put_in q (suc m) memory ≡ put_in q m memory → covers q m ≡ false → Next m
    next_passing passes same-added same_put uncovered = record {
      hands =
          left_unchanged n m (registers_of memory m) (line_between q m memory) passes
          ∙ ap line_of (uncounted q m (suc m) (acted q m) (on_wire (put_in q m memory)) some ∙ ap₂ (λ (x : ℕ) (l : List ℕ). on_the_way q (suc m) x (on_wire l)) (sym same-added) (sym same_put));
      changes = nothing_stored n m (registers_of memory m) (line_between q m memory) passes ∙ sym (ap (λ (t : Bool). cond t (change_asked q) None) uncovered);
    }
