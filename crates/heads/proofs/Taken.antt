-- What both writers lay out first, with the fill pairs behind it, is the command: three places of HELLOALL, five or six of a write, four or
-- five of a read.
use mathlib.Core.Path.{◌≡◌, refl, sym, ap, ap₂, ◌∙◌}
use mathlib.Core.Bool.{Bool, true, false, cond}
use mathlib.Core.List.{List, [], ◌∷◌, ◌++◌, append-nil}
use Prim.Native.Nat.{ℕ, zero, suc, ◌+◌, ◌/◌, ◌%◌, ◌≤◌, ◌<◌}
use native.Mathlib.Nat.{mod-eq_of_lt}
use native.Mathlib.Omega.{arith}
use lib.Dec.{eqb}
use lib.ListN.{length, take}
use lib.Seq.{length-take-le}
use Rattle.pec.specs.Pec.{pec_of}
use Rattle.questions.specs.Question.{good_question}
use Rattle.questions.specs.Shape.{shape_of}
use Rattle.questions.specs.Bytes.{low_high, sealed, fill_pairs, command_bytes}
use Rattle.questions.specs.declared.question.Question.{Question}
use Rattle.questions.specs.declared.question.Shape.{Shape}
use Rattle.questions.proofs.ByKind.{of_hello, of_write, of_read}
use Rattle.questions.proofs.Good.{good_first, hello_shape, write_shape}
use Rattle.questions.proofs.Bytes.{hello_command, write_command, read_command}
use Rattle.heads.specs.Head.{with_alive, hello_head, write_head, read_head, head_of}
use Rattle.heads.specs.declared.Head.{Head}

-- ---- by form

by_form : {P : Type 0} (k : ℕ) → (k ≡ 0 → P) → (1 ≤ k → k ≤ 2 → P) → (3 ≤ k → P) → P
by_form zero hello write read = hello refl
by_form (suc zero) hello write read = write (omega arith) (omega arith)
by_form (suc (suc zero)) hello write read = write (omega arith) (omega arith)
by_form (suc (suc (suc k))) hello write read = read (omega arith)

module _ (q : Question) (s : Shape) (shape : s ≡ shape_of q) where
  pub hello_head_lem : q.kind ≡ 0 → hello_head (s.first % 256) ≡ head_of q
  unfolding head_of
  hello_head_lem e = ap (λ (s : Shape). hello_head (s.first % 256)) shape ∙ sym (of_hello q.kind _ _ _ e)

  pub write_head_lem : 1 ≤ q.kind → q.kind ≤ 2 → write_head (s.first % 256) q ≡ head_of q
  unfolding head_of
  write_head_lem lo hi = ap (λ (s : Shape). write_head (s.first % 256) q) shape ∙ sym (of_write q.kind _ _ _ lo hi)

  pub read_head_lem : 3 ≤ q.kind → read_head (s.first % 256) q ≡ head_of q
  unfolding head_of
  read_head_lem lo = ap (λ (s : Shape). read_head (s.first % 256) q) shape ∙ sym (of_read q.kind _ _ _ lo)

-- ---- the places taken

module _ (q : Question) (first : ℕ) (small : q.seed < 256) where
  seed_is : q.seed ≡ (q.seed + 0) % 256
  seed_is = omega arith

  -- a write: the first five or six
  write_taken : take (with_alive q 5) (write_head first q).bytes ≡ sealed q 0 (first ∷ q.reg ∷ low_high q.value)
  unfolding sealed
  write_taken = by_alive (eqb q.alive 1)
    where
      front : List ℕ → List ℕ
      front l = first ∷ q.reg ∷ q.value % 256 ∷ q.value / 256 ∷ pec_of (first ∷ q.reg ∷ low_high q.value) ∷ l

      by_alive : (on : Bool) → take (cond on (5 + 1) 5) (front (q.seed ∷ [])) ≡ front (cond on ((q.seed + 0) % 256 ∷ []) [])
      by_alive true = ap (λ (s : ℕ). front (s ∷ [])) seed_is
      by_alive false = refl

  -- a read: the first four or five
  read_taken : take (with_alive q 4) (read_head first q).bytes ≡ sealed q 0 (first ∷ q.reg ∷ 0 ∷ [])
  unfolding sealed
  read_taken = by_alive (eqb q.alive 1)
    where
      front : List ℕ → List ℕ
      front l = first ∷ q.reg ∷ 0 ∷ pec_of (first ∷ q.reg ∷ 0 ∷ []) ∷ l

      by_alive : (on : Bool) → take (cond on (4 + 1) 4) (front (q.seed ∷ 0 ∷ [])) ≡ front (cond on ((q.seed + 0) % 256 ∷ []) [])
      by_alive true = ap (λ (s : ℕ). front (s ∷ [])) seed_is
      by_alive false = refl

-- ---- the six places are enough, of any question

module _ (q : Question) where
  one_more : (on : Bool) (places : ℕ) → cond on (places + 1) places ≤ places + 1
  one_more true places = omega arith
  one_more false places = omega arith

  head_most : (head_of q).count ≤ 6
  head_most =
      by_form q.kind
      (λ e. omega (arith, ap (λ (h : Head). h.count) (hello_head_lem q (shape_of q) refl e)))
      (λ lo hi. omega (arith, ap (λ (h : Head). h.count) (write_head_lem q (shape_of q) refl lo hi), one_more (eqb q.alive 1) 5))
      (λ lo. omega (arith, ap (λ (h : Head). h.count) (read_head_lem q (shape_of q) refl lo), one_more (eqb q.alive 1) 4))

  head_places : length (head_of q).bytes ≡ 6
  head_places =
      by_form q.kind
      (λ e. ap (λ (h : Head). length h.bytes) (sym (hello_head_lem q (shape_of q) refl e)))
      (λ lo hi. ap (λ (h : Head). length h.bytes) (sym (write_head_lem q (shape_of q) refl lo hi)))
      (λ lo. ap (λ (h : Head). length h.bytes) (sym (read_head_lem q (shape_of q) refl lo)))

  pub head_within : (h : Head) → h ≡ head_of q → h.count ≤ length h.bytes
  head_within h e = omega (arith, ap (λ (h : Head). h.count) e, ap (λ (h : Head). length h.bytes) e, head_most, head_places)

  pub head_length : (h : Head) → h ≡ head_of q → length (take h.count h.bytes) ≡ h.count
  head_length h e = length-take-le h.count h.bytes (head_within h e)

  pub head_short : (h : Head) → h ≡ head_of q → length (take h.count h.bytes) ≤ 6
  head_short h e = omega (arith, head_length h e, ap (λ (h : Head). h.count) e, head_most)

-- ---- the command of a good question

module _ (q : Question) (good : good_question q ≡ true) where
  first_is : (shape_of q).first % 256 ≡ (shape_of q).first
  first_is = mod-eq_of_lt (good_first q good)

  module _ (small : q.seed < 256) where
    taken_hello : q.kind ≡ 0 → take (head_of q).count (head_of q).bytes ++ fill_pairs (shape_of q).values ≡ command_bytes q
    unfolding fill_pairs
    taken_hello e =
        ap₂ (λ (h : Head) (k : ℕ). take h.count h.bytes ++ fill_pairs k) (sym (hello_head_lem q (shape_of q) refl e)) (ap (λ (s : Shape). s.values) (hello_shape q e))
        ∙ ap (λ (x : ℕ). x ∷ 0 ∷ 0 ∷ []) first_is ∙ sym (hello_command q e)

    taken_write : 1 ≤ q.kind → q.kind ≤ 2 → take (head_of q).count (head_of q).bytes ++ fill_pairs (shape_of q).values ≡ command_bytes q
    unfolding fill_pairs
    taken_write lo hi =
        ap₂ (λ (h : Head) (k : ℕ). take h.count h.bytes ++ fill_pairs k) (sym (write_head_lem q (shape_of q) refl lo hi)) (write_shape q lo hi).values
        ∙ append-nil (take (with_alive q 5) (write_head ((shape_of q).first % 256) q).bytes)
        ∙ write_taken q ((shape_of q).first % 256) small
        ∙ ap (λ (x : ℕ). sealed q 0 (x ∷ q.reg ∷ low_high q.value)) first_is ∙ sym (write_command q lo hi)

    taken_read : 3 ≤ q.kind → take (head_of q).count (head_of q).bytes ++ fill_pairs (shape_of q).values ≡ command_bytes q
    taken_read lo =
        ap (λ (h : Head). take h.count h.bytes ++ fill_pairs (shape_of q).values) (sym (read_head_lem q (shape_of q) refl lo))
        ∙ ap (λ (l : List ℕ). l ++ fill_pairs (shape_of q).values) (read_taken q ((shape_of q).first % 256) small)
        ∙ ap (λ (x : ℕ). sealed q 0 (x ∷ q.reg ∷ 0 ∷ []) ++ fill_pairs (shape_of q).values) first_is ∙ sym (read_command q lo)

    pub head_taken : (h : Head) (s : Shape) → h ≡ head_of q → s ≡ shape_of q → take h.count h.bytes ++ fill_pairs s.values ≡ command_bytes q
    head_taken h s e f =
        ap₂ (λ (h : Head) (s : Shape). take h.count h.bytes ++ fill_pairs s.values) e f
        ∙ by_form q.kind taken_hello taken_write taken_read
