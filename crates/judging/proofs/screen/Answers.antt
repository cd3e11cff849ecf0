-- `screen` meets its contract: each `return` is the row that the tests before it lead to.
use mathlib.Core.Path.{sym, ap, ◌∙◌}
use native.Mathlib.Omega.{arith}
use borrow.Author.Tests.{le-leb, lt-leb, eq-eqb, ne_eqb}
use lib.ListN.{length}
use Rattle.questions.specs.Shape.{shape_of}
use Rattle.questions.specs.declared.question.Shape.{Shape}
use Rattle.contents.proofs.Tests.{was_so, was_not}
use Rattle.judging.specs.Judge.{screen_rows, screen_of}
use Rattle.judging.proofs.screen.Goals as goal

pub returns-then-not-is_good : goal.returns-then-not-is_good
unfolding screen_of screen_rows
returns-then-not-is_good c =
    let given = was_not c.is_good.ensures c.if-not-is_good.true in
    simp given

pub returns-then-room-values : goal.returns-then-room-values
unfolding screen_of screen_rows
returns-then-room-values c =
    let a = c.args in
    let good = was_so c.is_good.ensures c.if-not-is_good.false in
    let values = ap (λ (s : Shape). s.values) c.shape_of-s.ensures in
    let given = lt-leb (shape_of a.q).values a.room (omega (arith, values, c.if-room-values.true)) in
    simp (good, given)

pub returns-then-line-words : goal.returns-then-line-words
unfolding screen_of screen_rows
returns-then-line-words c =
    let a = c.args in
    let good = was_so c.is_good.ensures c.if-not-is_good.false in
    let values = ap (λ (s : Shape). s.values) c.shape_of-s.ensures in
    let enough = le-leb (shape_of a.q).values a.room (omega (arith, values, c.if-room-values.false)) in
    let words = ap (λ (s : Shape). s.words) c.shape_of-s.ensures in
    let given = ne_eqb (length a.line.now) (shape_of a.q).words (λ e. c.if-line-words.true (e ∙ sym words)) in
    simp (good, enough, given)

pub returns : goal.returns
unfolding screen_of screen_rows
returns c =
    let a = c.args in
    let good = was_so c.is_good.ensures c.if-not-is_good.false in
    let values = ap (λ (s : Shape). s.values) c.shape_of-s.ensures in
    let enough = le-leb (shape_of a.q).values a.room (omega (arith, values, c.if-room-values.false)) in
    let words = ap (λ (s : Shape). s.words) c.shape_of-s.ensures in
    let long = eq-eqb (length a.line.now) (shape_of a.q).words (c.if-line-words.false ∙ words) in
    c.screen_words.ensures a.q a.room ∙ simp (good, enough, long)
