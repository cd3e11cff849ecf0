-- `is_good` meets its contract: at each `return` the tests before it decide the definition.
use mathlib.Core.Path.{◌≡◌, ◌∙◌, sym}
use mathlib.Core.Bool.{◌&&◌}
use mathlib.Core.Logic.{⊎_elim}
use Rattle.std.proofs.Math.Bool.{and-true}
use lib.Dec.{leb}
use borrow.Author.Tests.{le-leb, lt-leb}
use Rattle.questions.specs.Question.{good_question, good_chain}
use Rattle.questions.specs.declared.question.Kind.TheVariants.{WriteAll, WriteDevice, ReadAll, ReadDevice}
use Rattle.questions.proofs.ByKind.{named_number, named_most}
use Rattle.questions.proofs.Within.{within}
use Rattle.questions.proofs.question.is_good.Goals as goal

pub returns-in_default : goal.returns-in_default
unfolding good_question
returns-in_default c = simp (lt-leb _ _ c.in_default.ensures)

pub returns-then-q-gt1 : goal.returns-then-q-gt1
unfolding good_question
returns-then-q-gt1 c = simp (le-leb _ _ (named_most c.in-Ok.kind c.in-Ok.ensures), lt-leb _ _ c.if-q-gt1.true)

pub returns-in-HelloAll : goal.returns-in-HelloAll
unfolding good_question
returns-in-HelloAll c = simp (named_number c.in-Ok.ensures c.in-HelloAll.is, le-leb _ _ c.if-q-gt1.false)

pub returns-in-WriteAll : goal.returns-in-WriteAll
unfolding good_question good_chain
returns-in-WriteAll c =
    let chain = within 1 32 c.args.q.n c.new.result c.contains-chain.ensures.value c.new.ensures.start c.new.ensures.end c.new.ensures.exhausted in
    let all = chain ∙ sym (and-true (leb 1 c.args.q.n && leb c.args.q.n 32)) in
    ⊎_elim (λ (e : c.in-Ok.kind ≡ WriteAll). simp (named_number c.in-Ok.ensures e, le-leb _ _ c.if-q-gt1.false) all)
    (λ (e : c.in-Ok.kind ≡ ReadAll). simp (named_number c.in-Ok.ensures e, le-leb _ _ c.if-q-gt1.false) all) c.in-WriteAll.is

pub returns-then-chain : goal.returns-then-chain
unfolding good_question good_chain
returns-then-chain c =
    let chain = within 1 32 c.args.q.n c.new.result c.contains-chain.ensures.value c.new.ensures.start c.new.ensures.end c.new.ensures.exhausted in
    ⊎_elim (λ (e : c.in-Ok.kind ≡ WriteDevice). simp (named_number c.in-Ok.ensures e, le-leb _ _ c.if-q-gt1.false, sym chain, c.if-chain.true))
    (λ (e : c.in-Ok.kind ≡ ReadDevice). simp (named_number c.in-Ok.ensures e, le-leb _ _ c.if-q-gt1.false, sym chain, c.if-chain.true)) c.in-WriteDevice.is

pub returns-else-chain : goal.returns-else-chain
unfolding good_question good_chain
returns-else-chain c =
    let chain = within 1 32 c.args.q.n c.new.result c.contains-chain.ensures.value c.new.ensures.start c.new.ensures.end c.new.ensures.exhausted in
    ⊎_elim (λ (e : c.in-Ok.kind ≡ WriteDevice). simp (named_number c.in-Ok.ensures e, le-leb _ _ c.if-q-gt1.false, sym chain, c.if-chain.false))
    (λ (e : c.in-Ok.kind ≡ ReadDevice). simp (named_number c.in-Ok.ensures e, le-leb _ _ c.if-q-gt1.false, sym chain, c.if-chain.false)) c.in-WriteDevice.is
