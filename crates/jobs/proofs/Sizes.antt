-- THE SIZES OF A HEADER AND OF AN ENTRY'S FIELDS: as many bytes as are laid, whatever the fields hold. Proofs count with their bounds alone.
use mathlib.Core.Path.{◌≡◌, refl, ap}
use mathlib.Core.Bool.{Bool, true, false, cond}
use mathlib.Core.Logic.{⊎_elim}
use mathlib.Core.List.{[]}
use Prim.Native.Nat.{ℕ, ◌+◌, ◌≤◌, ◌<◌}
use native.Mathlib.Omega.{arith}
use lib.Dec.{leb}
use lib.ListN.{length, length-append}
use borrow.Author.Tests.{le-leb, lt-leb}
use Rattle.ground.proofs.Test.{below_or_not}
use Rattle.packing.specs.Words.{low_high}
use Rattle.jobs.specs.declared.Header.{Header}
use Rattle.jobs.specs.Format.{since, header_bytes, field_bytes, head_size, field_size, mask_place, behind_mask}

pub head_length : (h : Header) → length (header_bytes h) ≡ head_size
unfolding head_size
head_length h = refl

pub head_bounds : (7 ≤ head_size) × (head_size ≤ 16)
unfolding head_size
head_bounds = (omega arith, omega arith)

module _ (version : ℕ) where
  -- by the version: no mask, or two bytes
  pub behind_old : version < 2 → behind_mask version ≡ mask_place
  unfolding behind_mask
  behind_old old = ap (λ (t : Bool). mask_place + length (cond t (low_high 0) [])) (lt-leb 2 version old)

  pub behind_new : 2 ≤ version → behind_mask version ≡ mask_place + 2
  unfolding behind_mask
  behind_new new = ap (λ (t : Bool). mask_place + length (cond t (low_high 0) [])) (le-leb 2 version new)

  -- a mask is as long as any other
  pub behind_mask_lem : (mask : ℕ) → mask_place + length (since 2 version (low_high mask)) ≡ behind_mask version
  unfolding behind_mask
  behind_mask_lem mask = by_test (leb 2 version)
    where
      by_test : (t : Bool) → mask_place + length (cond t (low_high mask) []) ≡ mask_place + length (cond t (low_high 0) [])
      by_test true = refl
      by_test false = refl

  pub behind_bounds : (4 ≤ behind_mask version) × (behind_mask version ≤ 6)
  behind_bounds =
      ⊎_elim
      (λ (old : version < 2). (omega (arith, behind_old old), omega (arith, behind_old old)))
      (λ (new : 2 ≤ version). (omega (arith, behind_new new), omega (arith, behind_new new)))
      (below_or_not version 2)

  -- four bytes stand behind it
  fields_end : (kind reg value mask device seed words : ℕ) → length (field_bytes version kind reg value mask device seed words) ≡ behind_mask version + 4
  fields_end kind reg value mask device seed words = simp length-append (omega (arith, behind_mask_lem mask))

  pub field_size_is : field_size version ≡ behind_mask version + 4
  unfolding field_size
  field_size_is = fields_end 0 0 0 0 0 0 0

  pub fields_length : (kind reg value mask device seed words : ℕ) → length (field_bytes version kind reg value mask device seed words) ≡ field_size version
  fields_length kind reg value mask device seed words = omega (arith, fields_end kind reg value mask device seed words, field_size_is)

  pub field_bounds : (8 ≤ field_size version) × (field_size version ≤ 16)
  field_bounds = (omega (arith, field_size_is, behind_bounds.0), omega (arith, field_size_is, behind_bounds.1))
