-- Values on the wire: highest address first, low byte before high byte. Read from the bytes of a line, and found again among them.
use mathlib.Core.Path.{◌≡◌, sym, ap, ◌∙◌, subst}
use mathlib.Core.List.{List, [], ◌∷◌, ◌++◌, reverse, reverse-cons, reverse-reverse}
use Prim.Native.Nat.{ℕ, zero, suc, ◌+◌, ◌*◌, ◌/◌, ◌%◌, ◌≤◌, ◌<◌}
use native.Mathlib.Omega.{arith}
use lib.Dec.{lit<}
use lib.ListN.{length, get_or, take, drop, length-drop, length-reverse}
use lib.Seq.{get_or-drop, take_at}
use Rattle.remainder.specs.Turned.{Bytes}
use Rattle.packing.specs.Words.{words_of, as_bytes}
use Rattle.packing.proofs.Back.{words_front, words_wide, bytes_front}
use Rattle.questions.specs.Bytes.{low_high, on_wire}
use Rattle.reader.specs.Read.{values_in}
use Rattle.acceptance.specs.Answer.{Registers}

-- ---- lists of numbers below a bound

module _ (bound : ℕ) where
  abbrev Below : List ℕ → Type 0
  Below l = (i : ℕ) → get_or l i 0 < bound

  below_append : (xs ys : List ℕ) → Below xs → Below ys → Below (xs ++ ys)
  below_append [] ys bx by i = by i
  below_append (x ∷ xs) ys bx by zero = bx 0
  below_append (x ∷ xs) ys bx by (suc i) = below_append xs ys (λ k. bx (suc k)) by i

  -- one more in front
  below_cons : (x : ℕ) (xs : List ℕ) → x < bound → Below xs → Below (x ∷ xs)
  below_cons x xs h b zero = h
  below_cons x xs h b (suc i) = b i

pub bytes_append : (xs ys : List ℕ) → Bytes xs → Bytes ys → Bytes (xs ++ ys)
bytes_append = below_append 256

pub bytes_cons : (x : ℕ) (xs : List ℕ) → x < 256 → Bytes xs → Bytes (x ∷ xs)
bytes_cons = below_cons 256

pub no_bytes : Bytes []
no_bytes i = lit< tt

pub two_bytes : (v : ℕ) → v < 65536 → Bytes (low_high v)
two_bytes v h = bytes_cons (v % 256) (v / 256 ∷ []) (omega arith) (bytes_cons (v / 256) [] (omega arith) no_bytes)

-- ---- register values, the other way round and the first of them

pub reversed_registers : (values : List ℕ) → Registers values → Registers (reverse values)
reversed_registers [] r = r
reversed_registers (v ∷ values) r =
    subst Registers (sym (reverse-cons v values))
    (below_append 65536 (reverse values) (v ∷ []) (reversed_registers values (λ i. r (suc i))) (below_cons 65536 v [] (r 0) (λ i. lit< tt)))

taken_registers : (m : ℕ) (values : List ℕ) → Registers values → Registers (take m values)
taken_registers zero values r i = lit< tt
taken_registers (suc m) [] r i = lit< tt
taken_registers (suc m) (v ∷ values) r zero = r 0
taken_registers (suc m) (v ∷ values) r (suc i) = taken_registers m values (λ k. r (suc k)) i

-- ---- bytes read as values are those values on the wire

module _ (l : List ℕ) (small : Bytes l) (m : ℕ) where
  small_behind : Bytes (drop 2 l)
  small_behind i = omega (arith, get_or-drop 2 l i 0, small (2 + i))

  pub wire_read : 2 + 2 * m ≤ length l → take (2 * m) (drop 2 l) ≡ on_wire (values_in l m)
  unfolding on_wire
  wire_read room =
      sym (ap as_bytes (reverse-reverse (take m (words_of (drop 2 l)))) ∙ bytes_front (drop 2 l) m (omega (arith, length-drop 2 l)) small_behind)

  pub values_registers : Registers (values_in l m)
  values_registers = reversed_registers (take m (words_of (drop 2 l))) (taken_registers m (words_of (drop 2 l)) (words_wide (drop 2 l) small_behind))

-- ---- and values on the wire are found again

pub wire_back : (first second : ℕ) (values rest : List ℕ) → Registers values
    → values_in (first ∷ second ∷ (on_wire values ++ rest)) (length values) ≡ values
unfolding on_wire
wire_back first second values rest r =
    ap reverse
    (ap (take (length values)) (words_front (reverse values) rest (reversed_registers values r))
    ∙ take_at (reverse values) (words_of rest) (length values) (length-reverse values))
    ∙ reverse-reverse values

pub words_are_bytes : (words : List ℕ) → Registers words → Bytes (as_bytes words)
unfolding as_bytes
words_are_bytes [] r = no_bytes
words_are_bytes (w ∷ words) r = bytes_append (low_high w) (as_bytes words) (two_bytes w (r 0)) (words_are_bytes words (λ i. r (suc i)))

pub wire_bytes : (values : List ℕ) → Registers values → Bytes (on_wire values)
unfolding on_wire
wire_bytes values r = words_are_bytes (reverse values) (reversed_registers values r)
