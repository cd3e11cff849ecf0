-- `head_of` meets its contract, form by form.
use mathlib.Core.Path.{◌≡◌, ◌∙◌}
use mathlib.Core.Logic.{⊎_elim}
use native.Mathlib.Omega.{arith}
use Rattle.questions.specs.declared.question.Kind.TheVariants.{WriteAll, WriteDevice, ReadAll, ReadDevice}
use Rattle.questions.proofs.ByKind.{asked_number}
use Rattle.heads.proofs.Taken.{hello_head_lem, write_head_lem, read_head_lem}
use Rattle.heads.proofs.head_of.Goals as goal

pub returns-in-HelloAll : goal.returns-in-HelloAll
returns-in-HelloAll c =
    let shape = c.shape_of-s in
    hello_head_lem c.args.q shape.result shape.ensures (asked_number c.args.q.kind c.asks.ensures c.in-HelloAll.is)

pub returns-in-WriteAll : goal.returns-in-WriteAll
returns-in-WriteAll c =
    let shape = c.shape_of-s in
    let k = c.args.q.kind in
    ⊎_elim (λ (is : c.asks.result ≡ WriteAll). let e = asked_number k c.asks.ensures is in c.write_head.ensures ∙ write_head_lem c.args.q shape.result shape.ensures (omega (arith, e)) (omega (arith, e)))
    (λ (is : c.asks.result ≡ WriteDevice). let e = asked_number k c.asks.ensures is in c.write_head.ensures ∙ write_head_lem c.args.q shape.result shape.ensures (omega (arith, e)) (omega (arith, e)))
    c.in-WriteAll.is

pub returns-in-ReadAll : goal.returns-in-ReadAll
returns-in-ReadAll c =
    let shape = c.shape_of-s in
    let k = c.args.q.kind in
    ⊎_elim (λ (is : c.asks.result ≡ ReadAll). let e = asked_number k c.asks.ensures is in c.read_head.ensures ∙ read_head_lem c.args.q shape.result shape.ensures (omega (arith, e)))
    (λ (is : c.asks.result ≡ ReadDevice). let e = asked_number k c.asks.ensures is in c.read_head.ensures ∙ read_head_lem c.args.q shape.result shape.ensures (omega (arith, e)))
    c.in-ReadAll.is
