-- `joined` meets its contract: one test of the sixteen low nibbles with the sixteen high ones.
use mathlib.Core.Path.{◌≡◌, refl}
use mathlib.Core.Bool.{Bool, true}
use Prim.Native.Nat.{ℕ, ◌+◌, ◌*◌, ◌/◌}
use mir.Facts.{Fits-and_r}
use lib.Bits.{bit_and, bit_or}
use lib.Dec.{eqb}
use borrow.Author.Tests.{eqb-true}
use Rattle.ground.specs.Sweep.{every}
use Rattle.ground.proofs.Sweep.{swept}
use borrow.Author.Rules.{rules}
use Rattle.lines.proofs.read.joined.Goals as goal

-- what the code makes of the two
abbrev eight : ℕ → ℕ → ℕ
eight low high = bit_and (bit_or (low + 256 * high) ((low + 256 * high) / 16)) 0xFF

joins : ℕ → ℕ → Bool
joins low high = eqb (eight low high) (low + 16 * high)

all_join : every (λ low. every (joins low) 16) 16 ≡ true
unfolding joins
all_join = refl

pub overflow_cast-result : goal.overflow_cast-result
overflow_cast-result c = search (rules, Fits-and_r)

pub returns : goal.returns
unfolding joins
returns c =
    let low = c.args.low in
    let high = c.args.high in
    eqb-true (eight low high) (low + 16 * high) (swept (joins low) 16 (swept (λ low. every (joins low) 16) 16 all_join low c.requires.0) high c.requires.1)
