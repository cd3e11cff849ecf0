-- A row's test, asked by `if !f(..)` of a function that answers as the row is defined: what is known where the code goes on, and where it returns.
use Rattle.std.proofs.Common.{◌≡◌, Bool, true, false, sym, ◌∙◌}

pub was_so : {answer test : Bool} → answer ≡ test → answer ≡ true → test ≡ true
was_so same on = sym same ∙ on

pub was_not : {answer test : Bool} → answer ≡ test → answer ≡ false → test ≡ false
was_not same back = sym same ∙ back
