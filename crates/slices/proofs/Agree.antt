-- Nothing is left open: two answers that meet a function's contract, as its source states it, are the same, whatever the elements are.
use mathlib.Core.Path.{◌≡◌, sym, ◌∙◌}
use Rattle.std.specs.Prelude.{ℕ, min}
use Rattle.ground.specs.Agree.{Settled}
use Rattle.slices.proofs.element_or.Reads as element_or

pub element_or_settled : (T t clones copies more : _) → Settled (element_or.Post T t clones copies more)
element_or_settled T t clones copies more l given r r' left left' p q = p ∙ sym q

-- the lesser of two counts is the library's `min`: a crate cannot name that contract, so its clause stands here
pub least_settled : (a b : ℕ) → Settled {L = Unit {0}} {Given = λ _. Unit {0}} {Answer = λ _. ℕ} {Left = λ _. Unit {0}} (λ _ _ r _. r ≡ min a b)
least_settled a b l given r r' left left' p q = p ∙ sym q
