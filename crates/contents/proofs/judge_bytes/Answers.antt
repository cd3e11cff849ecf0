-- `judge_bytes` meets its contract: each `return` is the row that the tests before it lead to.
use Rattle.std.specs.Prelude.{Err}
use Rattle.std.proofs.Common.{sym, ap, ◌∙◌, eq-eqb, ne_eqb}
use Rattle.readings.specs.declared.Refusal.TheVariants.{Check, Count}
use Rattle.contents.specs.Rows.{check_byte}
use Rattle.contents.specs.InOrder.{byte_rows, judge_bytes}
use Rattle.contents.proofs.Tests.{was_so, was_not}
use Rattle.contents.proofs.judge_bytes.Goals as goal

pub returns-then-not-echoes : goal.returns-then-not-echoes
unfolding judge_bytes byte_rows
returns-then-not-echoes c =
    let given = was_not c.echoes.ensures c.if-not-echoes.true in
    simp given

pub returns-then-not-pec_is_right : goal.returns-then-not-pec_is_right
unfolding judge_bytes byte_rows
returns-then-not-pec_is_right c =
    let echo = was_so c.echoes.ensures c.if-not-echoes.false in
    let given = was_not c.pec_is_right.ensures c.if-not-pec_is_right.true in
    simp (echo, given)

pub returns-then-not-alive_is_right : goal.returns-then-not-alive_is_right
unfolding judge_bytes byte_rows
returns-then-not-alive_is_right c =
    let echo = was_so c.echoes.ensures c.if-not-echoes.false in
    let pec = was_so c.pec_is_right.ensures c.if-not-pec_is_right.false in
    let given = was_not c.alive_is_right.ensures c.if-not-alive_is_right.true in
    simp (echo, pec, given)

pub returns-then-check-ne0 : goal.returns-then-check-ne0
unfolding judge_bytes byte_rows
returns-then-check-ne0 c =
    let a = c.args in
    let echo = was_so c.echoes.ensures c.if-not-echoes.false in
    let pec = was_so c.pec_is_right.ensures c.if-not-pec_is_right.false in
    let alive = was_so c.alive_is_right.ensures c.if-not-alive_is_right.false in
    let check = c.check_byte-check.ensures in
    let given = ne_eqb (check_byte a.q a.bytes.now) 0 (λ e. c.if-check-ne0.true (check ∙ e)) in
    ap (λ b. Err (Check b)) check ∙ simp (echo, pec, alive, given)

pub returns-then-not-count_is_right : goal.returns-then-not-count_is_right
unfolding judge_bytes byte_rows
returns-then-not-count_is_right c =
    let a = c.args in
    let echo = was_so c.echoes.ensures c.if-not-echoes.false in
    let pec = was_so c.pec_is_right.ensures c.if-not-pec_is_right.false in
    let alive = was_so c.alive_is_right.ensures c.if-not-alive_is_right.false in
    let check = eq-eqb (check_byte a.q a.bytes.now) 0 (sym c.check_byte-check.ensures ∙ c.if-check-ne0.false) in
    let count = was_not c.count_is_right.ensures c.if-not-count_is_right.true in
    ap (λ b. Err (Count b)) c.element_or.ensures ∙ simp (echo, pec, alive, check, count)

pub returns : goal.returns
unfolding judge_bytes byte_rows
returns c =
    let a = c.args in
    let echo = was_so c.echoes.ensures c.if-not-echoes.false in
    let pec = was_so c.pec_is_right.ensures c.if-not-pec_is_right.false in
    let alive = was_so c.alive_is_right.ensures c.if-not-alive_is_right.false in
    let check = eq-eqb (check_byte a.q a.bytes.now) 0 (sym c.check_byte-check.ensures ∙ c.if-check-ne0.false) in
    let count = was_so c.count_is_right.ensures c.if-not-count_is_right.false in
    c.taken.ensures ∙ simp (echo, pec, alive, check, count)
