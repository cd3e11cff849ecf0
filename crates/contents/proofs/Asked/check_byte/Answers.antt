-- `check_byte` meets its contract: a read's check byte stands behind the command byte, the register byte and two bytes for each value.
use mathlib.Core.Logic.{◌⊎◌, ⊎_elim}
use Rattle.std.proofs.Common.{◌≡◌, ℕ, ◌≤◌, ◌+◌, ◌*◌, ap, ◌∙◌, arith}
use Rattle.questions.specs.Question.{kind_at}
use Rattle.questions.specs.declared.question.Kind.{Kind}
use Rattle.questions.specs.declared.question.Kind.TheVariants.{ReadAll, ReadDevice}
use Rattle.questions.specs.declared.question.Shape.{Shape}
use Rattle.questions.proofs.ByKind.{asked, asked_number}
use Rattle.questions.proofs.Good.{read_shape, covered_le}
use Rattle.contents.proofs.RowLaws.{read_check}
use Rattle.contents.specs.Rows.{byte_in, check_byte}
use Rattle.contents.proofs.Asked.check_byte.Goals as goal

-- the kinds of a read have the numbers from 3 on
reads : (k : ℕ) {kind : Kind} → kind ≡ kind_at k → (kind ≡ ReadAll) ⊎ (kind ≡ ReadDevice) → 3 ≤ k
reads k at is = ⊎_elim (λ e. omega (arith, asked_number k at e)) (λ e. omega (arith, asked_number k at e)) is

pub overflow_mul-self : goal.overflow_mul-self
overflow_mul-self c =
    let q = c.args.self.question in
    omega (arith, ap (λ (s : Shape). s.values) c.args.self.shaped, (read_shape q (reads q.kind c.asks.ensures c.in-ReadAll.is)).covered, covered_le q, c.well_formed.0)

pub overflow_add-self : goal.overflow_add-self
overflow_add-self c =
    let q = c.args.self.question in
    omega (arith, ap (λ (s : Shape). s.values) c.args.self.shaped, (read_shape q (reads q.kind c.asks.ensures c.in-ReadAll.is)).covered, covered_le q, c.well_formed.0)

pub returns-in-HelloAll : goal.returns-in-HelloAll
unfolding check_byte
returns-in-HelloAll c =
    let k = c.args.self.question.kind in
    let at = c.asks.ensures in
    ⊎_elim (λ e. asked k _ _ _ _ _ at e) (λ w. ⊎_elim (λ e. asked k _ _ _ _ _ at e) (λ e. asked k _ _ _ _ _ at e) w) c.in-HelloAll.is

pub returns-in-ReadAll : goal.returns-in-ReadAll
returns-in-ReadAll c =
    let a = c.args in
    c.element_or.ensures ∙ ap (λ (s : Shape). byte_in a.bytes.now (2 + 2 * s.values)) a.self.shaped
    ∙ read_check a.self.question a.bytes.now (reads a.self.question.kind c.asks.ensures c.in-ReadAll.is)
