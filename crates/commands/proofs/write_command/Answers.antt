-- `write_command` meets its contract: turned away for its question, it has touched nothing; else it says what putting the line said.
use mathlib.Core.Path.{◌≡◌, sym, ap, subst, ◌∙◌}
use mathlib.Core.Bool.{true}
use mathlib.Core.List.{List, ◌++◌}
use Prim.Native.Nat.{ℕ, ◌<◌}
use native.Mathlib.Omega.{arith}
use lib.ListN.{length}
use Rattle.questions.specs.Bytes.{fill_pairs}
use Rattle.writing.specs.PutLine.{LinePut}
use Rattle.questions.specs.Question.{good_question}
use Rattle.questions.specs.declared.question.Shape.{Shape}
use Rattle.questions.proofs.Good.{good_values}
use Rattle.heads.proofs.Taken.{head_short, head_taken}
use Rattle.commands.specs.Command.{issued_as}
use Rattle.commands.proofs.Writing.{said_room, command_refused, command_put}
use Rattle.commands.proofs.write_command.Goals as goal

pub returns-then-not-is_good : goal.returns-then-not-is_good
returns-then-not-is_good c =
    let a = c.args in
    command_refused a.q a.out.now (sym c.is_good.ensures ∙ c.if-not-is_good.true)

pub put_filled-requires : goal.put_filled-requires
put_filled-requires c =
    let a = c.args in
    let asked = c.is_good in
    let good : good_question a.q ≡ true = sym asked.ensures ∙ c.if-not-is_good.false in
    let head = c.head_of-head in
    let shape = c.shape_of-pairs in
    (omega (arith, head_short a.q head.result head.ensures, ap (λ (l : List ℕ). length l) c.taken.ensures), omega (arith, ap (λ (s : Shape). s.values) shape.ensures, good_values a.q good))

pub returns-in_err-put_filled : goal.returns-in_err-put_filled
returns-in_err-put_filled c =
    let a = c.args in
    let asked = c.is_good in
    let good : good_question a.q ≡ true = sym asked.ensures ∙ c.if-not-is_good.false in
    let small : a.q.seed < 256 = omega (arith, c.well_formed.0) in
    let head = c.head_of-head in
    let shape = c.shape_of-pairs in
    let done = c.put_filled in
    command_put a.q a.out.now good done.new.out done.result _
    (subst (λ (bytes : List ℕ). LinePut bytes a.out.now done.new.out done.result)
    (ap (λ (l : List ℕ). l ++ fill_pairs shape.result.values) c.taken.ensures
    ∙ head_taken a.q good small head.result shape.result head.ensures shape.ensures) done.ensures)
    (said_room c.from_residual.result c.from_residual.ensures.1 ∙ sym (ap issued_as c.in_err-put_filled.was))

pub returns : goal.returns
returns c =
    let a = c.args in
    let asked = c.is_good in
    let good : good_question a.q ≡ true = sym asked.ensures ∙ c.if-not-is_good.false in
    let small : a.q.seed < 256 = omega (arith, c.well_formed.0) in
    let head = c.head_of-head in
    let shape = c.shape_of-pairs in
    let done = c.put_filled in
    command_put a.q a.out.now good done.new.out done.result _
    (subst (λ (bytes : List ℕ). LinePut bytes a.out.now done.new.out done.result)
    (ap (λ (l : List ℕ). l ++ fill_pairs shape.result.values) c.taken.ensures
    ∙ head_taken a.q good small head.result shape.result head.ensures shape.ensures) done.ensures)
    (sym (ap issued_as c.in_ok-put_filled.was))
