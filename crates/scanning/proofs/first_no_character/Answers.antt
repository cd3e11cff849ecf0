-- `first_no_character` meets its contract: the first word, and behind it every place from the nibbles passed over on.
use mathlib.Core.Path.{◌≡◌, sym, ap, ◌∙◌}
use mathlib.Core.Bool.{true, false}
use Prim.Native.Nat.{◌-◌}
use native.Mathlib.Nat.{sub-zero}
use native.Mathlib.Omega.{arith}
use borrow.Author.Tests.{eqb-true, eqb-false}
use lib.ListN.{length, get_or}
use Rattle.characters.specs.Nibble.{is_nibble}
use Rattle.character_check.specs.Check.{is_character}
use Rattle.character_check.proofs.Pass.{nibble_is_character}
use Rattle.scanning.specs.Along.{failing_along}
use Rattle.scanning.proofs.FirstPlace.{scan_on, scan_here, scan_done, skipped, weaker, characters_along}
use Rattle.scanning.proofs.first_no_character.Goals as goal

pub returns-then-is_empty : goal.returns-then-is_empty
returns-then-is_empty c =
    let l = c.args.line.now in
    sym (characters_along l ∙ ap (failing_along is_character l 0) (sym (sub-zero (length l))) ∙ scan_done is_character l 0 (length l) (omega (arith, eqb-true (length l) 0 (sym c.is_empty.ensures ∙ c.if-is_empty.true))))

pub returns-then-not-is_character : goal.returns-then-not-is_character
returns-then-not-is_character c =
    let l = c.args.line.now in
    let fails : is_character (get_or l 0 0) ≡ false = sym c.is_character.ensures ∙ c.if-not-is_character.true in
    sym (characters_along l ∙ ap (failing_along is_character l 0) (sym (sub-zero (length l))) ∙ scan_here is_character l 0 (length l) (omega (arith, eqb-false (length l) 0 (sym c.is_empty.ensures ∙ c.if-is_empty.false))) fails)

pub returns : goal.returns
returns c =
    let l = c.args.line.now in
    let character = c.is_character in
    let passes : is_character (get_or l 0 0) ≡ true = sym character.ensures ∙ c.if-not-is_character.false in
    let over = c.pass_nibbles-from.ensures in
    let from = c.pass_nibbles-from.result in
    let characters = weaker is_nibble is_character nibble_is_character l 1 (from - 1) over.2 in
    c.first_failing.ensures is_character (λ w r h e. e) ∙ skipped is_character l 1 from (length l) over.0 over.1 characters
    ∙ sym (characters_along l ∙ ap (failing_along is_character l 0) (sym (sub-zero (length l))) ∙ scan_on is_character l 0 (length l) (omega (arith, over.0, over.1)) passes)
