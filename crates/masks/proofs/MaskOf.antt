-- An entry's mask, by the version: from version 2 on it is the one that the entry says; before, the one that the rules leave, whatever stands there.
use mathlib.Core.Path.{◌≡◌, sym, ap}
use mathlib.Core.Bool.{Bool, true, false, not, cond, false≢true}
use Prim.Native.Nat.{ℕ, ◌≤◌, ◌<◌}
use lib.Dec.{eqb}
use borrow.Author.Tests.{le-leb, lt-leb, eqb-true}
use Rattle.masks.specs.Masks.{is_write, all_bits, mask_of, good_mask}

pub said_mask : (version kind said : ℕ) → 2 ≤ version → mask_of version kind said ≡ said
unfolding mask_of
said_mask version kind said new = ap (λ (has : Bool). cond has said (cond (is_write kind) all_bits 0)) (le-leb 2 version new)

pub implied_mask : (version kind mask said : ℕ) → version < 2 → good_mask version kind mask ≡ true → mask_of version kind said ≡ mask
unfolding mask_of good_mask
implied_mask version kind mask said old = by_test _ (is_write kind) (lt-leb 2 version old)
  where
    by_test : (has write : Bool) → has ≡ false → cond write (cond has (not (eqb mask 0)) (eqb mask all_bits)) (eqb mask 0) ≡ true
        → cond has said (cond write all_bits 0) ≡ mask
    by_test true write none good = absurd (false≢true (sym none))
    by_test false true none good = sym (eqb-true mask all_bits good)
    by_test false false none good = sym (eqb-true mask 0 good)
