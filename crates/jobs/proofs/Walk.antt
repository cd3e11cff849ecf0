-- The walk over a file's entries, entry by entry.
use mathlib.Core.Path.{◌≡◌, refl, sym, ap, ◌∙◌}
use mathlib.Core.List.{List, [], ◌∷◌}
use Prim.Native.Nat.{ℕ, zero, suc, ◌+◌, ◌*◌, ◌<◌, ◌≤◌}
use native.Mathlib.Omega.{arith}
use lib.ListN.{length, drop, length-drop, drop_of_length-le}
use lib.Seq.{drop-drop}
use Rattle.jobs.specs.Format.{field_size}
use Rattle.jobs.specs.Check.{size_in, behind_first, walk_from, entries_in}

-- an entry's size: its first byte, and those behind it
first_and_rest : (version : ℕ) (front : List ℕ) → size_in version front ≡ suc (behind_first version front)
unfolding field_size
first_and_rest version front = omega arith

module _ (version : ℕ) {A : Type 0} (end : A) (entry : (front : List ℕ) → (later : A) → A) where
  -- bytes passed over
  passed : (k : ℕ) (bytes : List ℕ) → walk_from version end entry k bytes ≡ walk_from version end entry 0 (drop k bytes)
  unfolding walk_from
  passed zero bytes = refl
  passed (suc k) [] = refl
  passed (suc k) (b ∷ bytes) = passed k bytes

  pub one_entry : (bytes : List ℕ) → 0 < length bytes → walk_from version end entry 0 bytes ≡ entry bytes (walk_from version end entry 0 (drop (size_in version bytes) bytes))
  unfolding walk_from
  one_entry [] h = absurd (omega arith)
  one_entry (b ∷ bytes) h =
      ap (entry (b ∷ bytes)) (passed (behind_first version (b ∷ bytes)) bytes ∙ sym (ap (λ (k : ℕ). walk_from version end entry 0 (drop k (b ∷ bytes))) (first_and_rest version (b ∷ bytes))))

  -- at a place of the file: the entry there, and what follows it
  pub walk_here : (file : List ℕ) (at : ℕ) → at < length file
      → walk_from version end entry 0 (drop at file) ≡ entry (drop at file) (walk_from version end entry 0 (drop (at + size_in version (drop at file)) file))
  walk_here file at h =
      one_entry (drop at file) (omega (arith, length-drop at file))
      ∙ ap (λ (rest : List ℕ). entry (drop at file) (walk_from version end entry 0 rest)) (drop-drop (size_in version (drop at file)) at file)

  -- no entry is left
  pub walk_over : (file : List ℕ) (at : ℕ) → length file ≤ at → walk_from version end entry 0 (drop at file) ≡ end
  unfolding walk_from
  walk_over file at h = ap (walk_from version end entry 0) (drop_of_length-le file h)

-- no bytes, no entries
pub no_bytes : (version : ℕ) → 8 * length (entries_in version []) ≤ 0
unfolding walk_from
no_bytes version = omega arith
