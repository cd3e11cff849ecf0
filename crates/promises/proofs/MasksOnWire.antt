-- Masks laid on values: they turn over the same bits on the wire, so that two answers are apart by the masks and their own remainder alone; and
-- register values stay register values.
use mathlib.Core.Path.{◌≡◌, refl, sym, ap, ap₂, ◌∙◌}
use mathlib.Core.Bool.{Bool, true, false, cond}
use mathlib.Core.List.{List, [], ◌∷◌, ◌++◌}
use Prim.Native.Nat.{ℕ, zero, suc, ◌+◌, ◌<◌}
use native.Mathlib.Nat.{suc_inj}
use native.Mathlib.Omega.{arith}
use lib.Bits.{bit_xor, xor_self, xor_mod, xor_shr, xor_lt}
use lib.Count.{ones}
use lib.Dec.{eqb, lit<}
use lib.ListN.{length}
use Rattle.ground.specs.Sweep.{tabulated}
use Rattle.remainder.specs.Register.{run}
use Rattle.remainder.specs.Turned.{turned, weight, distance}
use Rattle.remainder.proofs.Xor.{xor_back}
use Rattle.remainder.proofs.Linear.{run_linear}
use Rattle.remainder.proofs.Turned.{length_turned, distance_turned}
use Rattle.pec.specs.Pec.{byte_step}
use Rattle.pec.specs.Distance.{apart_by}
use Rattle.pec.proofs.Byte.{byte_linear}
use Rattle.packing.specs.Words.{as_bytes}
use Rattle.questions.specs.Bytes.{low_high, on_wire}
use Rattle.acceptance.specs.Answer.{Registers}
use Rattle.questions.proofs.Wire.{length_wire, wire_cons}
use Rattle.promises.proofs.Apart.{varied, length_varied}

-- ---- turning over bits of the values turns over the same bits on the wire

pub turned_append : (xs ys ms ns : List ℕ) → length xs ≡ length ms → turned (xs ++ ys) (ms ++ ns) ≡ turned xs ms ++ turned ys ns
unfolding turned
turned_append [] ys [] ns e = refl
turned_append [] ys (m ∷ ms) ns e = absurd (omega arith)
turned_append (x ∷ xs) ys [] ns e = absurd (omega arith)
turned_append (x ∷ xs) ys (m ∷ ms) ns e = ap (λ (l : List ℕ). bit_xor x m ∷ l) (turned_append xs ys ms ns (suc_inj e))

wire_turned : (values masks : List ℕ) → length values ≡ length masks → on_wire (turned values masks) ≡ turned (on_wire values) (on_wire masks)
unfolding turned on_wire as_bytes
wire_turned [] [] e = refl
wire_turned [] (m ∷ masks) e = absurd (omega arith)
wire_turned (v ∷ values) [] e = absurd (omega arith)
wire_turned (v ∷ values) (m ∷ masks) e =
    let same : length (on_wire values) ≡ length (on_wire masks) = omega (arith, length_wire values, length_wire masks) in
    wire_cons (bit_xor v m) (turned values masks)
    ∙ ap₂ ◌++◌ (wire_turned values masks (suc_inj e)) (ap₂ (λ (x y : ℕ). x ∷ y ∷ []) (xor_mod v m 8) (xor_shr v m 8))
    ∙ sym (ap₂ turned (wire_cons v values) (wire_cons m masks) ∙ turned_append (on_wire values) (low_high v) (on_wire masks) (low_high m) same)

pub varied_turned : (values masks : List ℕ) → length values ≡ length masks → varied (turned values masks) ≡ turned (varied values) (varied masks)
unfolding turned
varied_turned values masks e =
    let same : length (on_wire values) ≡ length (on_wire masks) = omega (arith, length_wire values, length_wire masks) in
    ap (λ (l : List ℕ). l ++ (0 ∷ [])) (wire_turned values masks e) ∙ sym (turned_append (on_wire values) (0 ∷ []) (on_wire masks) (0 ∷ []) same)

pub turned_back : (xs ms : List ℕ) → length xs ≡ length ms → turned xs (turned xs ms) ≡ ms
unfolding turned
turned_back [] [] e = refl
turned_back [] (m ∷ ms) e = absurd (omega arith)
turned_back (x ∷ xs) [] e = absurd (omega arith)
turned_back (x ∷ xs) (m ∷ ms) e = ap₂ (λ (y : ℕ) (l : List ℕ). y ∷ l) (xor_back x m) (turned_back xs ms (suc_inj e))

-- so two answers are apart by the masks' own bits and those of the masks' own remainder, whatever the values
pub by_masks : (start : ℕ) (values masks : List ℕ) → length values ≡ length masks
    → apart_by start (varied values) (varied (turned values masks)) ≡ weight (varied masks) + ones (run byte_step 0 (varied masks))
unfolding apart_by
by_masks start values masks e =
    let w = varied values in
    let m = varied masks in
    let size : length w ≡ length m = omega (arith, length_varied values, length_varied masks) in
    ap (λ (l : List ℕ). distance w l + ones (bit_xor (run byte_step start w) (run byte_step start l))) (varied_turned values masks e)
    ∙ ap₂ (λ (d r : ℕ). d + ones r) (distance_turned w m (sym size))
    (sym (run_linear byte_step byte_linear start start w (turned w m) (sym (length_turned w m)))
    ∙ ap₂ (λ (c : ℕ) (l : List ℕ). run byte_step c l) (xor_self start) (turned_back w m size))

-- ---- a mask of register values gives register values

pub turned_registers : (values masks : List ℕ) → Registers values → Registers masks → Registers (turned values masks)
unfolding turned
turned_registers [] masks rv rm i = rv i
turned_registers (v ∷ values) [] rv rm i = rv i
turned_registers (v ∷ values) (m ∷ masks) rv rm zero = xor_lt 16 v m (rv 0) (rm 0)
turned_registers (v ∷ values) (m ∷ masks) rv rm (suc i) = turned_registers values masks (λ k. rv (suc k)) (λ k. rm (suc k)) i

pub device_registers : (n device bits i : ℕ) → bits < 65536 → Registers (tabulated (λ k. cond (eqb k device) bits 0) n i)
device_registers zero device bits i h k = lit< tt
device_registers (suc n) device bits i h zero = either (eqb i device)
  where
    either : (t : Bool) → cond t bits 0 < 65536
    either true = h
    either false = lit< tt
device_registers (suc n) device bits i h (suc k) = device_registers n device bits (suc i) h k
