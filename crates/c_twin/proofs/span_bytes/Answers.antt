-- `span_bytes` meets its contract: the tests come in the order of the rows, and each `return` says its row's number; no device acts on a line longer than any command.
use mathlib.Core.Path.{sym, ◌∙◌}
use native.Mathlib.Omega.{arith}
use borrow.Author.Tests.{le-leb, lt-leb, eq-eqb, ne_eqb}
use Rattle.c_twin.specs.TwinBytes.{bytes_number}
use Rattle.c_twin.proofs.SteppedBytes.{passed_on, turned_away, went_on}
use Rattle.c_twin.proofs.span_bytes.Goals as goal

pub returns-then-not-is_chain : goal.returns-then-not-is_chain
unfolding bytes_number
returns-then-not-is_chain c =
    let a = c.args in
    turned_away _ _ a.memory.now a.line.now a.out.now _ (simp (sym c.is_chain.ensures ∙ c.if-not-is_chain.true)) (omega arith)

pub returns-then-out-line : goal.returns-then-out-line
unfolding bytes_number
returns-then-out-line c =
    let a = c.args in
    let chain = sym c.is_chain.ensures ∙ c.if-not-is_chain.false in
    turned_away _ _ a.memory.now a.line.now a.out.now _ (simp (chain, lt-leb _ _ c.if-out-line.true)) (omega arith)

pub returns-then-line-ne0 : goal.returns-then-line-ne0
unfolding bytes_number
returns-then-line-ne0 c =
    let a = c.args in
    let chain = sym c.is_chain.ensures ∙ c.if-not-is_chain.false in
    turned_away _ _ a.memory.now a.line.now a.out.now _ (simp (chain, le-leb _ _ c.if-out-line.false, ne_eqb _ _ c.if-line-ne0.true)) (omega arith)

pub returns-then-line-gt280 : goal.returns-then-line-gt280
unfolding bytes_number
returns-then-line-gt280 c =
    let a = c.args in
    let chain = sym c.is_chain.ensures ∙ c.if-not-is_chain.false in
    let room = c.if-out-line.false in
    let even = c.if-line-ne0.false in
    let memory_known = c.slice_known-1.given in
    let Line-known = c.shared_slice_known-1.given in
    went_on _ _ a.memory.now a.line.now a.out.now _ _ (simp (chain, le-leb _ _ room, eq-eqb _ _ even))
    (passed_on a.span.n a.span.from a.span.to a.memory.now a.line.now a.out.now even c.if-line-gt280.true _ chain (omega (arith, room, even))
    (λ i. (memory_known i).fits) (λ i. (Line-known i).fits) c.store.ensures)

pub returns : goal.returns
unfolding bytes_number
returns c =
    let a = c.args in
    let chain = sym c.is_chain.ensures ∙ c.if-not-is_chain.false in
    went_on _ _ a.memory.now a.line.now a.out.now _ _ (simp (chain, le-leb _ _ c.if-out-line.false, eq-eqb _ _ c.if-line-ne0.false)) c.hop_bytes.ensures
