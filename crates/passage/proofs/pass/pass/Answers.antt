-- `pass` meets its contract: the device hears a question, and takes the line up only where it is that question's.
use mathlib.Core.Path.{◌≡◌, refl, sym, ap, ◌∙◌}
use mathlib.Core.Bool.{Bool, true, false, cond}
use Rattle.writing.specs.PutLine.{out_of}
use Rattle.hearing.specs.Hear.{is_place}
use Rattle.underway.specs.TakeUp.{handed_bytes, is_met}
use Rattle.passage.proofs.Passing.{not_acting, no_place, is_possible, acts_by, passed_by}
use Rattle.passage.proofs.pass.pass.Goals as goal

pub returns-then-not-is_place : goal.returns-then-not-is_place
returns-then-not-is_place c =
    let a = c.args in
    not_acting a.n a.device a.registers.now a.line.now _
    (no_place a.n a.device a.registers.now a.line.now (sym c.is_place.ensures ∙ c.if-not-is_place.true)) refl

pub returns-then-not-take_up : goal.returns-then-not-take_up
returns-then-not-take_up c =
    let a = c.args in
    let line = a.line.now in
    let up = c.take_up in
    let q = c.hear-q.result in
    let m = c.carried_by-m.result in
    let place : is_place a.n a.device ≡ true = sym c.is_place.ensures ∙ c.if-not-is_place.false in
    let can = is_possible a.n a.device a.registers.now line q c.hear-q.ensures m c.carried_by-m.ensures place in
    let test = acts_by a.n a.device a.registers.now line q c.hear-q.ensures m c.carried_by-m.ensures place can in
    let refused : is_met q a.device m line ≡ false = sym up.ensures.says ∙ c.if-not-take_up.true in
    not_acting a.n a.device a.registers.now line up.new.line (sym test ∙ refused)
    (up.ensures.leaves ∙ ap (λ (t : Bool). cond t (out_of (handed_bytes q a.device c.element_or-own.result m line) line) line) refused)

pub returns : goal.returns
returns c =
    let a = c.args in
    let line = a.line.now in
    let up = c.take_up in
    let q = c.hear-q.result in
    let m = c.carried_by-m.result in
    let place : is_place a.n a.device ≡ true = sym c.is_place.ensures ∙ c.if-not-is_place.false in
    let can = is_possible a.n a.device a.registers.now line q c.hear-q.ensures m c.carried_by-m.ensures place in
    let test = acts_by a.n a.device a.registers.now line q c.hear-q.ensures m c.carried_by-m.ensures place can in
    let taken : is_met q a.device m line ≡ true = sym up.ensures.says ∙ c.if-not-take_up.false in
    passed_by a.n a.device a.registers.now line q c.hear-q.ensures m c.carried_by-m.ensures place can
    c.element_or-own.result up.new.line c.change_asked.result c.element_or-own.ensures (sym test ∙ taken)
    (up.ensures.leaves ∙ ap (λ (t : Bool). cond t (out_of (handed_bytes q a.device c.element_or-own.result m line) line) line) taken)
    c.change_asked.ensures
