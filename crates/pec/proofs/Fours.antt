-- Bytes four places apart brought together: eight bytes have the PEC of four, each of them moved on by four bytes of 0 and folded into
-- the one four places later. So the code need not wait for one byte before it takes the next.
use mathlib.Core.Path.{◌≡◌, refl, sym, ap, ◌∙◌}
use mathlib.Core.List.{List, [], ◌∷◌}
use Prim.Native.Nat.{ℕ, ◌+◌, ◌<◌, ◌≤◌}
use native.Mathlib.Omega.{arith}
use lib.Bits.{bit_xor, xor_zero_l, xor_zero_r}
use lib.ListN.{length, get_or, drop}
use Rattle.remainder.specs.Register.{times, run, Linear}
use Rattle.remainder.specs.Turned.{turned}
use Rattle.remainder.proofs.Linear.{zero_stays, times_linear, run_linear}
use Rattle.remainder.proofs.Run.{run_next}
use Rattle.pec.specs.Pec.{bit_step, byte_step, pec_of}
use Rattle.pec.specs.Moved.{moved}
use Rattle.pec.proofs.Byte.{bit_linear, byte_linear, byte_zero, eight_bits}

moved_linear : Linear moved
unfolding moved
moved_linear a b = times_linear bit_step bit_linear 32 a b

-- four bytes of 0, one by one
by_zeros : (crc : ℕ) → run byte_step crc (0 ∷ 0 ∷ 0 ∷ 0 ∷ []) ≡ moved crc
unfolding run moved times eight_bits
by_zeros crc =
    byte_zero (byte_step (byte_step (byte_step crc 0) 0) 0)
    ∙ ap eight_bits (byte_zero (byte_step (byte_step crc 0) 0) ∙ ap eight_bits (byte_zero (byte_step crc 0) ∙ ap eight_bits (byte_zero crc)))

-- moving on before a byte is taken in, or after it, comes to the same
moved_step : (crc byte : ℕ) → byte_step (moved crc) (moved byte) ≡ moved (byte_step crc byte)
unfolding byte_step moved times
moved_step crc byte = ap (times 8 bit_step) (sym (moved_linear crc byte))

-- one byte of the four: what was moved on and what is new stay apart
apart : (old new before byte : ℕ) → byte_step (bit_xor (moved old) new) (bit_xor (moved before) byte) ≡ bit_xor (moved (byte_step old before)) (byte_step new byte)
apart old new before byte =
    byte_linear (moved old) new (moved before) byte ∙ ap (λ (x : ℕ). bit_xor x (byte_step new byte)) (moved_step old before)

-- nothing moved on is nothing
no_state : 0 ≡ bit_xor (moved 0) 0
no_state = sym (xor_zero_r (moved 0) ∙ zero_stays moved moved_linear)

module _ (a b c d e f g h : ℕ) where
  one : byte_step 0 (bit_xor (moved a) e) ≡ bit_xor (moved (byte_step 0 a)) (byte_step 0 e)
  one = ap (λ (s : ℕ). byte_step s (bit_xor (moved a) e)) no_state ∙ apart 0 0 a e

  -- the four brought together: the PEC of the first four moved on, and that of the next four
  brought : run byte_step 0 (bit_xor (moved a) e ∷ bit_xor (moved b) f ∷ bit_xor (moved c) g ∷ bit_xor (moved d) h ∷ [])
      ≡ bit_xor (moved (run byte_step 0 (a ∷ b ∷ c ∷ d ∷ []))) (run byte_step 0 (e ∷ f ∷ g ∷ h ∷ []))
  unfolding run
  brought =
      let two = ap (λ (s : ℕ). byte_step s (bit_xor (moved b) f)) one ∙ apart (byte_step 0 a) (byte_step 0 e) b f in
      let three = ap (λ (s : ℕ). byte_step s (bit_xor (moved c) g)) two ∙ apart (byte_step (byte_step 0 a) b) (byte_step (byte_step 0 e) f) c g in
      ap (λ (s : ℕ). byte_step s (bit_xor (moved d) h)) three
      ∙ apart (byte_step (byte_step (byte_step 0 a) b) c) (byte_step (byte_step (byte_step 0 e) f) g) d h

  -- any state, and four bytes behind it
  behind : (s : ℕ) → run byte_step s (e ∷ f ∷ g ∷ h ∷ []) ≡ bit_xor (moved s) (run byte_step 0 (e ∷ f ∷ g ∷ h ∷ []))
  unfolding turned
  behind s =
      let split : run byte_step s (e ∷ f ∷ g ∷ h ∷ []) ≡ run byte_step (bit_xor s 0) (bit_xor 0 e ∷ bit_xor 0 f ∷ bit_xor 0 g ∷ bit_xor 0 h ∷ []) =
      simp (xor_zero_r s, xor_zero_l e, xor_zero_l f, xor_zero_l g, xor_zero_l h) in
      split ∙ run_linear byte_step byte_linear s 0 (0 ∷ 0 ∷ 0 ∷ 0 ∷ []) (e ∷ f ∷ g ∷ h ∷ []) refl
      ∙ ap (λ (x : ℕ). bit_xor x (run byte_step 0 (e ∷ f ∷ g ∷ h ∷ []))) (by_zeros s)

  pub fours : run byte_step (run byte_step 0 (a ∷ b ∷ c ∷ d ∷ [])) (e ∷ f ∷ g ∷ h ∷ [])
      ≡ run byte_step 0 (bit_xor (moved a) e ∷ bit_xor (moved b) f ∷ bit_xor (moved c) g ∷ bit_xor (moved d) h ∷ [])
  fours = behind (run byte_step 0 (a ∷ b ∷ c ∷ d ∷ [])) ∙ sym brought

-- ---- four bytes of a list, which a loop takes at a time

next : (s : ℕ) (l : List ℕ) (k later : ℕ) → k + 1 ≡ later → k < length l → run byte_step s (drop k l) ≡ run byte_step (byte_step s (get_or l k 0)) (drop later l)
next s l k later e h = run_next byte_step s l k h ∙ ap (λ (j : ℕ). run byte_step (byte_step s (get_or l k 0)) (drop j l)) e

four_next : (s : ℕ) (l : List ℕ) (i : ℕ) → i + 4 ≤ length l
    → run byte_step s (drop i l) ≡ run byte_step (run byte_step s (get_or l i 0 ∷ get_or l (i + 1) 0 ∷ get_or l (i + 2) 0 ∷ get_or l (i + 3) 0 ∷ [])) (drop (i + 4) l)
unfolding run
four_next s l i h =
    next s l i (i + 1) refl (omega arith) ∙ next _ l (i + 1) (i + 2) (omega arith) (omega arith)
    ∙ next _ l (i + 2) (i + 3) (omega arith) (omega arith) ∙ next _ l (i + 3) (i + 4) (omega arith) (omega arith)

pub first_four : (l : List ℕ) → 4 ≤ length l
    → run byte_step (run byte_step 0 (get_or l 0 0 ∷ get_or l 1 0 ∷ get_or l 2 0 ∷ get_or l 3 0 ∷ [])) (drop 4 l) ≡ pec_of l
unfolding pec_of
first_four l h = sym (four_next 0 l 0 (omega arith))

pub next_four : (a b c d : ℕ) (l : List ℕ) (i : ℕ) → i + 4 ≤ length l
    → run byte_step
    (run byte_step 0
    (bit_xor (moved a) (get_or l i 0) ∷ bit_xor (moved b) (get_or l (i + 1) 0) ∷ bit_xor (moved c) (get_or l (i + 2) 0) ∷ bit_xor (moved d) (get_or l (i + 3) 0) ∷ []))
    (drop (i + 4) l)
    ≡ run byte_step (run byte_step 0 (a ∷ b ∷ c ∷ d ∷ [])) (drop i l)
next_four a b c d l i h =
    ap (λ (s : ℕ). run byte_step s (drop (i + 4) l)) (sym (fours a b c d (get_or l i 0) (get_or l (i + 1) 0) (get_or l (i + 2) 0) (get_or l (i + 3) 0)))
    ∙ sym (four_next (run byte_step 0 (a ∷ b ∷ c ∷ d ∷ [])) l i h)
