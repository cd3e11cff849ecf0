-- `command_bytes` meets its contract: turned away it has touched nothing; else there is room for what is laid, and that is the command.
use mathlib.Core.Path.{◌≡◌, sym, ap, ◌∙◌}
use mathlib.Core.Bool.{true}
use mathlib.Core.List.{List, ◌++◌}
use lib.ListN.{length}
use Prim.Native.Nat.{ℕ, ◌≤◌, ◌<◌}
use native.Mathlib.Omega.{arith}
use Rattle.questions.specs.Question.{good_question}
use Rattle.questions.specs.declared.question.Shape.{Shape}
use Rattle.questions.proofs.Good.{good_values}
use Rattle.lines.specs.Line.{line_of}
use Rattle.questions.specs.Bytes.{fill_pairs}
use Rattle.c_commands.specs.CommandBytes.{laid}
use Rattle.heads.proofs.Taken.{head_short}
use Rattle.c_commands.proofs.Answered.{bad_question, few_words, no_room, room_for, command_laid}
use Rattle.c_commands.proofs.command_bytes.Goals as goal

pub returns-then-not-is_good : goal.returns-then-not-is_good
returns-then-not-is_good c =
    let a = c.args in
    bad_question a.q a.out.now (sym c.is_good.ensures ∙ c.if-not-is_good.true)

pub returns-then-out-words : goal.returns-then-out-words
returns-then-out-words c =
    let a = c.args in
    let asked = c.is_good in
    let good : good_question a.q ≡ true = sym asked.ensures ∙ c.if-not-is_good.false in
    let shape = c.shape_of-shape in
    no_room a.q a.out.now good shape.result shape.ensures c.if-out-words.true

pub lay_line-requires : goal.lay_line-requires
lay_line-requires c =
    let a = c.args in
    let asked = c.is_good in
    let good : good_question a.q ≡ true = sym asked.ensures ∙ c.if-not-is_good.false in
    let small : a.q.seed < 256 = omega (arith, c.well_formed.0) in
    let head = c.head_of-head in
    let shape = c.shape_of-shape in
    let same = ap (λ (l : List ℕ). length l) c.taken.ensures in (
      omega (arith, head_short a.q head.result head.ensures, same),
      omega (arith, ap (λ (s : Shape). s.values) shape.ensures, good_values a.q good),
      omega (arith, room_for a.q a.out.now good shape.result shape.ensures small head.result head.ensures c.if-out-words.false, same),
    )

pub overflow_cast-result : goal.overflow_cast-result
overflow_cast-result c =
    let a = c.args in
    let asked = c.is_good in
    let good : good_question a.q ≡ true = sym asked.ensures ∙ c.if-not-is_good.false in
    let shape = c.shape_of-shape in
    let few : shape.result.words ≤ 140 = few_words a.q a.out.now good shape.result shape.ensures in
    omega arith

pub overflow_mul-result : goal.overflow_mul-result
overflow_mul-result c =
    let a = c.args in
    let asked = c.is_good in
    let good : good_question a.q ≡ true = sym asked.ensures ∙ c.if-not-is_good.false in
    let shape = c.shape_of-shape in
    let few : shape.result.words ≤ 140 = few_words a.q a.out.now good shape.result shape.ensures in
    omega arith

pub returns : goal.returns
returns c =
    let a = c.args in
    let asked = c.is_good in
    let good : good_question a.q ≡ true = sym asked.ensures ∙ c.if-not-is_good.false in
    let small : a.q.seed < 256 = omega (arith, c.well_formed.0) in
    let head = c.head_of-head in
    let shape = c.shape_of-shape in
    command_laid a.q a.out.now good shape.result shape.ensures small head.result head.ensures _ c.if-out-words.false
    (c.lay_line.ensures ∙ ap (λ (l : List ℕ). laid a.out.now 0 (line_of (l ++ fill_pairs shape.result.values))) c.taken.ensures)
