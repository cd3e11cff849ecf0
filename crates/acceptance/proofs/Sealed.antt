-- The bytes of an answer behind its covered part: the PEC, and the alive byte where it is on.
use mathlib.Core.Path.{◌≡◌, refl, sym, ap, ap₂, ◌∙◌, subst}
use mathlib.Core.List.{List, [], ◌∷◌, ◌++◌}
use Prim.Native.Nat.{ℕ, zero, suc, ◌+◌, ◌%◌, ◌≤◌}
use native.Mathlib.Nat.{mod-lt}
use native.Mathlib.Numerals.{add-one}
use native.Mathlib.Omega.{arith}
use lib.Dec.{lit<}
use lib.ListN.{length, get_or, take, drop, drop_of_length-le}
use lib.Seq.{split_at, take_at, get_or_at, get_or-append-add, drop-cons}
use Rattle.remainder.specs.Turned.{Bytes}
use Rattle.pec.specs.Pec.{pec_of}
use Rattle.pec.proofs.Byte.{pec_lt}
use Rattle.questions.specs.Bytes.{alive_byte, sealed}
use Rattle.questions.specs.declared.question.Question.{Question}
use Rattle.questions.proofs.Bytes.{alive_present, alive_off, sealed_size}
use Rattle.acceptance.proofs.Wire.{bytes_append, bytes_cons, no_bytes}

module _ (q : Question) (added : ℕ) where
  -- by whether the alive byte is on
  by_alive : (P : Type 0) → q.alive ≤ 1 → (q.alive ≡ 0 → P) → (q.alive ≡ 1 → P) → P
  by_alive P h off on = at q.alive refl
    where
      at : (a : ℕ) → q.alive ≡ a → P
      at zero e = off e
      at (suc zero) e = on e
      at (suc (suc a)) e = absurd (omega arith)

  pub length_alive : q.alive ≤ 1 → length (alive_byte q added) ≡ q.alive
  length_alive h =
      by_alive (length (alive_byte q added) ≡ q.alive) h (λ off. ap length (alive_off q added off) ∙ sym off)
      (λ on. ap length (alive_present q added on) ∙ sym on)

  pub length_sealed : q.alive ≤ 1 → (covered : List ℕ) → length (sealed q added covered) ≡ length covered + 1 + q.alive
  length_sealed h covered = omega (arith, sealed_size q added covered, length_alive h)

  -- ---- from the bytes to the answer
  pub is_sealed : q.alive ≤ 1 → (l covered : List ℕ) → length l ≡ length covered + 1 + q.alive → take (length covered) l ≡ covered
      → get_or l (length covered) 0 ≡ pec_of covered → (q.alive ≡ 1 → get_or l (length covered + 1) 0 ≡ (q.seed + added) % 256)
      → l ≡ sealed q added covered
  unfolding sealed
  is_sealed h l covered size front pec alive =
      split_at l (length covered) 0 (omega arith)
      ∙ ap₂ (λ (x : List ℕ) (y : ℕ). x ++ (y ∷ drop (suc (length covered)) l)) front pec
      ∙ ap (λ (x : List ℕ). covered ++ (pec_of covered ∷ x))
      (by_alive (drop (suc (length covered)) l ≡ alive_byte q added) h
      (λ off. let past : length l ≤ suc (length covered) = omega arith in drop_of_length-le l past ∙ sym (alive_off q added off))
      (λ on. let past : length l ≤ suc (suc (length covered)) = omega arith in
      drop-cons l (suc (length covered)) 0 (omega arith)
      ∙ ap₂ (λ (x : ℕ) (y : List ℕ). x ∷ y) (ap (λ (k : ℕ). get_or l k 0) (sym (add-one (length covered))) ∙ alive on)
      (drop_of_length-le l past) ∙ sym (alive_present q added on)))

  -- ---- and back
  pub sealed_front : (covered : List ℕ) → take (length covered) (sealed q added covered) ≡ covered
  unfolding sealed
  sealed_front covered = take_at covered (pec_of covered ∷ alive_byte q added) (length covered) refl

  pub sealed_pec : (covered : List ℕ) → get_or (sealed q added covered) (length covered) 0 ≡ pec_of covered
  unfolding sealed
  sealed_pec covered = get_or_at covered (pec_of covered) (alive_byte q added) 0 (length covered) refl

  pub sealed_alive : (covered : List ℕ) → q.alive ≡ 1 → get_or (sealed q added covered) (length covered + 1) 0 ≡ (q.seed + added) % 256
  unfolding sealed
  sealed_alive covered on =
      get_or-append-add covered (pec_of covered ∷ alive_byte q added) 1 0 ∙ ap (λ (l : List ℕ). get_or l 0 0) (alive_present q added on)

  pub sealed_bytes : q.alive ≤ 1 → (covered : List ℕ) → Bytes covered → Bytes (sealed q added covered)
  unfolding sealed
  sealed_bytes h covered b =
      bytes_append covered (pec_of covered ∷ alive_byte q added) b
      (bytes_cons (pec_of covered) (alive_byte q added) (pec_lt covered b)
      (by_alive (Bytes (alive_byte q added)) h (λ off. subst Bytes (sym (alive_off q added off)) no_bytes)
      (λ on. subst Bytes (sym (alive_present q added on)) (bytes_cons ((q.seed + added) % 256) [] (mod-lt (q.seed + added) (lit< tt)) no_bytes))))
