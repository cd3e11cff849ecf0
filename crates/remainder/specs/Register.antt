-- Remainders by shift register, at any width and with any constant: the shapes that both bit orders share.
-- A register is a number, a bit of it a binary digit; `bit_xor` is the library's.
use Rattle.std.specs.Prelude.{◌≡◌, List, [], ◌∷◌, ℕ, zero, suc, ◌*◌, ◌/◌, ◌%◌, ◌^◌}
use Rattle.std.specs.Int.Bits.{bit_xor}

-- the step n times over
unfoldable pub times : ℕ → (ℕ → ℕ) → ℕ → ℕ
times zero step c = c
times (suc n) step c = times n step (step c)

-- One shift of a register: the bit that falls out decides whether the constant is folded into what is left.
unfoldable pub shift : (rest out : ℕ → ℕ) → (constant : ℕ) → ℕ → ℕ
shift rest out constant c = bit_xor (rest c) (out c * constant)

-- lowest bit first: the register moves down
abbrev pub lowest_first : (constant : ℕ) → ℕ → ℕ
lowest_first = shift (λ c. c / 2) (λ c. c % 2)

-- highest bit first, in a register of suc k bits: the register moves up
abbrev pub highest_first : (k constant : ℕ) → ℕ → ℕ
highest_first k = shift (λ c. c * 2 % 2 ^ suc k) (λ c. c / 2 ^ k % 2)

-- a list taken in, one number after the other, from a start state
unfoldable pub run : (ℕ → ℕ → ℕ) → ℕ → List ℕ → ℕ
run step c [] = c
run step c (b ∷ bs) = run step (step c b) bs

-- turning over the same bits before or after comes to the same
abbrev pub Linear : (ℕ → ℕ) → Type 0
Linear f = (a b : ℕ) → f (bit_xor a b) ≡ bit_xor (f a) (f b)

-- the same of a step that takes in a number
abbrev pub LinearIn : (ℕ → ℕ → ℕ) → Type 0
LinearIn f = (a b x y : ℕ) → f (bit_xor a b) (bit_xor x y) ≡ bit_xor (f a x) (f b y)
