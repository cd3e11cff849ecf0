-- `screen_in_order` meets its contract: each `return` is the row that the tests before it lead to.
use mathlib.Core.Path.{sym, ◌∙◌}
use Rattle.contents.proofs.Tests.{was_so, was_not}
use Rattle.judging.specs.Judge.{screen_rows}
use Rattle.judging.proofs.screen_in_order.Goals as goal

pub returns-in-Some : goal.returns-in-Some
unfolding screen_rows
returns-in-Some c q room =
    let given = sym c.first_no_character-bad.ensures ∙ c.in-Some.is in
    simp given

pub returns-then-not-is_framed : goal.returns-then-not-is_framed
unfolding screen_rows
returns-then-not-is_framed c q room =
    let characters = sym c.first_no_character-bad.ensures ∙ c.in_default.is in
    let given = was_not c.is_framed.ensures c.if-not-is_framed.true in
    simp (characters, given)

pub returns-in-Some-odd : goal.returns-in-Some-odd
unfolding screen_rows
returns-in-Some-odd c q room =
    let characters = sym c.first_no_character-bad.ensures ∙ c.in_default.is in
    let frame = was_so c.is_framed.ensures c.if-not-is_framed.false in
    let given = sym c.first_no_nibble-odd.ensures ∙ c.in-Some-odd.is in
    simp (characters, frame, given)

pub returns : goal.returns
unfolding screen_rows
returns c q room =
    let characters = sym c.first_no_character-bad.ensures ∙ c.in_default.is in
    let frame = was_so c.is_framed.ensures c.if-not-is_framed.false in
    let nibbles = sym c.first_no_nibble-odd.ensures ∙ c.in_default-odd.is in
    simp (characters, frame, nibbles)
