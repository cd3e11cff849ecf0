-- `read_part` meets its contract: the lent part of the array is the words' nibbles, and they are joined.
use mathlib.Core.Path.{◌≡◌, ap, ◌∙◌, subst⁻¹}
use mathlib.Core.List.{List, ◌++◌}
use Prim.Native.Nat.{ℕ, ◌<◌}
use native.Mathlib.Omega.{arith}
use lib.ListN.{length, get_or, take}
use lib.Seq.{take_at}
use Rattle.ground.specs.Sweep.{tabulated}
use Rattle.ground.proofs.Sweep.{length_tabulated}
use Rattle.characters.proofs.Nibble.{true_bits_lt}
use Rattle.lines.specs.Nibbles.{nibble_in, two_of}
use Rattle.lines.proofs.Nibbles.{nibbles, nibbles_at, nibbles_joined}
use Rattle.lines.proofs.read.read_part.Goals as goal

size : (words : List ℕ) → length (nibbles words) ≡ length words
size words = length_tabulated (nibble_in words) (length words) 0

-- what is lent again of the array
lent : (words part rest : List ℕ) → part ≡ nibbles words → take (length words) (part ++ rest) ≡ nibbles words
lent words part rest e = take_at part rest (length words) (ap length e ∙ size words) ∙ e

pub join_nibbles-requires : goal.join_nibbles-requires
join_nibbles-requires c =
    let words = c.args.words.now in
    let put = c.put_nibbles in (
      ap length (lent words put.new.out _ put.ensures) ∙ size words ∙ c.requires.0,
      λ k. subst⁻¹ (λ (l : List ℕ). get_or l k 0 < 16) (lent words put.new.out _ put.ensures)
          (omega (arith, nibbles_at words k, true_bits_lt (get_or words k 0))),
    )

pub returns : goal.returns
returns c =
    let a = c.args in
    let words = a.words.now in
    let put = c.put_nibbles in
    c.join_nibbles.ensures
    ∙ ap (λ (l : List ℕ). tabulated (two_of (λ i. get_or l i 0)) (length a.out.now) 0) (lent words put.new.out _ put.ensures) ∙ nibbles_joined words (length a.out.now)
