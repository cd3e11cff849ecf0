-- The right answer, form by form: when all devices have had a command, the line between is the answer to it that brings back what they hold.
use mathlib.Core.Path.{◌≡◌, sym, ap, ap₂, ◌∙◌}
use mathlib.Core.Bool.{true}
use mathlib.Core.Logic.{⊎_elim}
use mathlib.Core.List.{List, [], ◌∷◌, ◌++◌, append-nil}
use Prim.Native.Nat.{ℕ, ◌≤◌, ◌<◌}
use native.Mathlib.Nat.{eq-zero-or-pos}
use native.Mathlib.Omega.{arith}
use lib.ListN.{length, drop_of_length-le}
use Rattle.ground.proofs.Test.{below_or_not}
use Rattle.lines.specs.Line.{line_of}
use Rattle.questions.specs.Question.{good_question}
use Rattle.questions.specs.Shape.{shape_of}
use Rattle.questions.specs.Bytes.{on_wire, fill_pairs, sealed, read_covered, write_covered, answer_bytes}
use Rattle.questions.specs.declared.question.Question.{Question}
use Rattle.questions.proofs.Bytes.{length_pairs}
use Rattle.questions.proofs.ByKind.{of_hello, of_write, of_read}
use Rattle.questions.proofs.Good.{good_kind}
use Rattle.acceptance.specs.Answer.{Registers, Sendable, Fitting}
use Rattle.acceptance.specs.Answer.Fitting.{hello, write, read}
use Rattle.questions.proofs.Wire.{length_wire}
use Rattle.underway.specs.OnTheWay.{on_the_way}
use Rattle.underway.proofs.Way.{way_hello, way_write, way_read}
use Rattle.roundtrip.specs.Between.{acted, put_in, line_between, brought_back}
use Rattle.roundtrip.proofs.AllActed.{all_acted, all_put, all_number, all_registers, hello_back, write_back}

hello_bytes : (q : Question) (values : List ℕ) → q.kind ≡ 0 → answer_bytes q values 0 ≡ (shape_of q).first ∷ 0 ∷ values
unfolding answer_bytes
hello_bytes q values e = of_hello q.kind _ _ _ e

write_answer : (q : Question) (values : List ℕ) → 1 ≤ q.kind → q.kind ≤ 2 → answer_bytes q values 0 ≡ sealed q (shape_of q).acting (write_covered q)
unfolding answer_bytes
write_answer q values some low = of_write q.kind _ _ _ some low

read_answer : (q : Question) (values : List ℕ) → 3 ≤ q.kind → answer_bytes q values 0 ≡ sealed q (shape_of q).acting (read_covered q values 0)
unfolding answer_bytes
read_answer q values reads = of_read q.kind _ _ _ reads

module _ (q : Question) (good : good_question q ≡ true) (sends : Sendable q) (n : ℕ) (chain : 1 ≤ q.kind → q.n ≡ n) (least : 1 ≤ n) (most : n ≤ 32)
    (memory : List ℕ) (words : Registers memory) where
  -- when all devices have had it, the line is the right answer
  pub answer_last : line_between q n memory ≡ line_of (answer_bytes q (brought_back q n memory) 0)
  answer_last =
      ap line_of (⊎_elim
      (λ (low : q.kind < 3). ⊎_elim
      (λ (e : q.kind ≡ 0). way_hello q n (acted q n) (on_wire (put_in q n memory)) e ∙ sym (hello_answer e))
      (λ (some : 1 ≤ q.kind). way_write q n (acted q n) (on_wire (put_in q n memory)) some (omega arith) ∙ ap (λ (a : ℕ). sealed q a (write_covered q)) (all_acted q good sends n chain memory words some)
      ∙ sym (write_answer q (brought_back q n memory) some (omega arith))) (eq-zero-or-pos q.kind))
      (λ (reads : 3 ≤ q.kind).
      let back = brought_back q n memory in
      let full : length (fill_pairs (shape_of q).values) ≤ length (on_wire back) =
      omega (arith, length_pairs (shape_of q).values, length_wire back, all_number q good sends n chain memory words reads) in
      ap (λ (l : List ℕ). on_the_way q n (acted q n) (on_wire l)) (all_put q good sends n chain memory words reads) ∙ way_read q n (acted q n) (on_wire back) reads
      ∙ ap₂ (λ (a : ℕ) (left : List ℕ). sealed q a (read_covered q back 0) ++ left) (all_acted q good sends n chain memory words (omega arith))
      (drop_of_length-le (fill_pairs (shape_of q).values) full) ∙ append-nil (sealed q (shape_of q).acting (read_covered q back 0))
      ∙ sym (read_answer q back reads)) (below_or_not q.kind 3))
    where
      hello_answer : q.kind ≡ 0 → answer_bytes q (brought_back q n memory) 0 ≡ (shape_of q).first ∷ 0 ∷ n ∷ []
      hello_answer e = ap (λ (l : List ℕ). answer_bytes q l 0) (hello_back q good sends n chain memory words e) ∙ hello_bytes q (n ∷ []) e

  pub fitting : Fitting q (brought_back q n memory)
  fitting =
      ⊎_elim
      (λ (low : q.kind < 3). ⊎_elim (λ e. hello e (record { count = n; only = hello_back q good sends n chain memory words e; least = least; most = most }))
      (λ some. write some (omega arith) (write_back q good sends n chain memory words some (omega arith))) (eq-zero-or-pos q.kind))
      (λ reads. read reads (good_kind q good) (record { number = all_number q good sends n chain memory words reads; registers = all_registers q good sends n chain memory words reads })) (below_or_not q.kind 3)
