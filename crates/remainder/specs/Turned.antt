-- Bits turned over: what stands in a list after some of its bits were turned over, how many were, and in how many bits two
-- lists differ. A set bit of a mask turns over the bit beside it: `bit_xor` and `ones` are the library's.
use Rattle.std.specs.Prelude.{ℕ, zero, ◌+◌, ◌<◌, List, [], ◌∷◌, get_or}
use Rattle.std.specs.Int.Bits.{bit_xor}
use Rattle.std.specs.Int.Count.{ones}

-- the list with the bits that its masks name turned over, place by place
unfoldable pub turned : List ℕ → List ℕ → List ℕ
turned [] masks = []
turned (x ∷ xs) [] = x ∷ xs
turned (x ∷ xs) (m ∷ masks) = bit_xor x m ∷ turned xs masks

-- how many bits of a list are set: of masks, how many bits they turn over
unfoldable pub weight : List ℕ → ℕ
weight [] = zero
weight (x ∷ xs) = ones x + weight xs

-- in how many bits two lists differ, place by place
unfoldable pub distance : List ℕ → List ℕ → ℕ
distance [] ys = zero
distance (x ∷ xs) [] = zero
distance (x ∷ xs) (y ∷ ys) = ones (bit_xor x y) + distance xs ys

-- every number of the list is a byte
abbrev pub Bytes : List ℕ → Type 0
Bytes l = (i : ℕ) → get_or l i 0 < 256
