-- What a call does exactly where it is due: the one form in which demand 2 speaks of commands, answers and certificates, on words and over the C
-- side's bytes.
use Rattle.std.specs.Prelude.{◌≡◌, List, ℕ}
use Rattle.lines.specs.Write.{at_front}

-- Due can be a command's line, an answer's values, a certificate's text. `Due it` says when it is due, `Says it r` that r is the answer then, and
-- `put it` is what the call then writes: it stands at the front of the lent memory, the rest is as it was. `Sent` is what the types of a program's
-- numbers give of the input, and `Unit` where nothing of that is needed.
pub record WhereDue {Answer : Type 0} (number : Answer → ℕ) (before : List ℕ) (Contract : (after : List ℕ) → Answer → Type 0) (Sent : Type 0)
    (Due : List ℕ → Type 0) (Says : List ℕ → Answer → Type 0) (put : List ℕ → List ℕ) : Type 0 where
  -- accepted, something was due, and this was done;
  pub only_then : (after : List ℕ) (r : Answer) → Contract after r → number r ≡ 0
      → (it : List ℕ) × Due it × Says it r × (after ≡ at_front (put it) before)
  -- and what is due is accepted and done
  pub always_then : (after : List ℕ) (r : Answer) → Contract after r → Sent → (it : List ℕ) → Due it
      → (number r ≡ 0) × Says it r × (after ≡ at_front (put it) before)
