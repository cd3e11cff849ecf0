-- THE RULES OF AN ENTRY, and the check's own test of them: an entry passes the test exactly where it keeps the rules.
use mathlib.Core.Path.{◌≡◌, refl, ap, ap₂}
use mathlib.Core.Bool.{Bool, true, false, cond, not, ◌&&◌, ◌||◌}
use mathlib.Core.Logic.{◌⊎◌, inl, inr, ⊎_elim}
use Prim.Native.Nat.{ℕ, ◌≤◌, ◌<◌}
use native.Mathlib.Omega.{arith}
use lib.Dec.{leb, eqb}
use lib.ListN.{length}
use borrow.Author.Tests.{le-leb, leb-true, leb-false, eq-eqb, ne_eqb, eqb-true, eqb-false, not-true}
use Rattle.ground.proofs.Test.{and_left, and_right}
use Rattle.questions.specs.Question.{hello_all, write_all, write_device, read_all, read_device}
use Rattle.questions.proofs.ByKind.{each_kind}
use Rattle.masks.specs.Masks.{all_bits, good_mask}
use Rattle.jobs.specs.declared.Header.{Header}
use Rattle.jobs.specs.Format.{Entry, asked}
use Rattle.used_fields.specs.Used.{uses_at, uses_of, unused_are_zero}
use Rattle.jobs.specs.Rules.{keeps_rules}
use Rattle.jobs.specs.Encoded.{Keeps}

and_both : (a b : Bool) → a ≡ true → b ≡ true → (a && b) ≡ true
and_both a b ea eb = ap₂ (λ (t u : Bool). t && u) ea eb

-- ---- each field: used, or 0

module _ (on : Bool) (field : ℕ) where
  register_passes : (k : ℕ) → k ≤ 4 → (k ≡ hello_all → field ≡ 0) → ((uses_at k on).register || eqb field 0) ≡ true
  register_passes =
      each_kind (λ (k : ℕ). (k ≡ hello_all → field ≡ 0) → ((uses_at k on).register || eqb field 0) ≡ true)
      (λ rule. eq-eqb field 0 (rule refl)) (λ rule. refl) (λ rule. refl) (λ rule. refl) (λ rule. refl)

  register_kept : (k : ℕ) → k ≤ 4 → ((uses_at k on).register || eqb field 0) ≡ true → k ≡ hello_all → field ≡ 0
  register_kept =
      each_kind (λ (k : ℕ). ((uses_at k on).register || eqb field 0) ≡ true → k ≡ hello_all → field ≡ 0)
      (λ e is. eqb-true field 0 e) (λ e is. absurd (omega (arith, is))) (λ e is. absurd (omega (arith, is))) (λ e is. absurd (omega (arith, is))) (λ e is. absurd (omega (arith, is)))

  abbrev Unvalued : ℕ → Type 0
  Unvalued k = (k ≡ hello_all) ⊎ (read_all ≤ k)

  value_passes : (k : ℕ) → k ≤ 4 → (Unvalued k → field ≡ 0) → ((uses_at k on).value || eqb field 0) ≡ true
  value_passes =
      each_kind (λ (k : ℕ). (Unvalued k → field ≡ 0) → ((uses_at k on).value || eqb field 0) ≡ true)
      (λ rule. eq-eqb field 0 (rule (inl refl))) (λ rule. refl) (λ rule. refl)
      (λ rule. eq-eqb field 0 (rule (inr (omega arith)))) (λ rule. eq-eqb field 0 (rule (inr (omega arith))))

  neither : (k : ℕ) → (k ≡ 0 → ⊥) → (3 ≤ k → ⊥) → Unvalued k → field ≡ 0
  neither k first last rule = absurd (⊎_elim first last rule)

  value_kept : (k : ℕ) → k ≤ 4 → ((uses_at k on).value || eqb field 0) ≡ true → Unvalued k → field ≡ 0
  value_kept =
      each_kind (λ (k : ℕ). ((uses_at k on).value || eqb field 0) ≡ true → Unvalued k → field ≡ 0)
      (λ e rule. eqb-true field 0 e)
      (λ e rule. neither 1 (λ is. omega (arith, is)) (λ up. omega (arith, up)) rule)
      (λ e rule. neither 2 (λ is. omega (arith, is)) (λ up. omega (arith, up)) rule)
      (λ e rule. eqb-true field 0 e) (λ e rule. eqb-true field 0 e)

  abbrev Unnamed : ℕ → Type 0
  Unnamed k = (k ≡ write_device → ⊥) → (k ≡ read_device → ⊥) → field ≡ 0

  device_passes : (k : ℕ) → k ≤ 4 → Unnamed k → ((uses_at k on).device || eqb field 0) ≡ true
  device_passes =
      each_kind (λ (k : ℕ). Unnamed k → ((uses_at k on).device || eqb field 0) ≡ true)
      (λ rule. eq-eqb field 0 (rule (λ is. omega (arith, is)) (λ is. omega (arith, is))))
      (λ rule. eq-eqb field 0 (rule (λ is. omega (arith, is)) (λ is. omega (arith, is))))
      (λ rule. refl)
      (λ rule. eq-eqb field 0 (rule (λ is. omega (arith, is)) (λ is. omega (arith, is))))
      (λ rule. refl)

  device_kept : (k : ℕ) → k ≤ 4 → ((uses_at k on).device || eqb field 0) ≡ true → Unnamed k
  device_kept =
      each_kind (λ (k : ℕ). ((uses_at k on).device || eqb field 0) ≡ true → Unnamed k)
      (λ e write read. eqb-true field 0 e) (λ e write read. eqb-true field 0 e)
      (λ e write read. absurd (write refl))
      (λ e write read. eqb-true field 0 e)
      (λ e write read. absurd (read refl))

-- the seed, by alive
module _ (alive field : ℕ) where
  abbrev Unseeded : ℕ → Type 0
  Unseeded k = (k ≡ hello_all) ⊎ (alive ≡ 1 → ⊥)

  on_passes : ((alive ≡ 1 → ⊥) → field ≡ 0) → (eqb alive 1 || eqb field 0) ≡ true
  on_passes rule = by_test (eqb alive 1) refl
    where
      by_test : (t : Bool) → eqb alive 1 ≡ t → (t || eqb field 0) ≡ true
      by_test true e = refl
      by_test false e = eq-eqb field 0 (rule (eqb-false alive 1 e))

  on_kept : (eqb alive 1 || eqb field 0) ≡ true → (alive ≡ 1 → ⊥) → field ≡ 0
  on_kept e off = by_test (eqb alive 1) refl e
    where
      by_test : (t : Bool) → eqb alive 1 ≡ t → (t || eqb field 0) ≡ true → field ≡ 0
      by_test true is e = absurd (off (eqb-true alive 1 is))
      by_test false is e = eqb-true field 0 e

  seed_passes : (k : ℕ) → k ≤ 4 → (Unseeded k → field ≡ 0) → ((uses_at k (eqb alive 1)).seed || eqb field 0) ≡ true
  seed_passes =
      each_kind (λ (k : ℕ). (Unseeded k → field ≡ 0) → ((uses_at k (eqb alive 1)).seed || eqb field 0) ≡ true)
      (λ rule. eq-eqb field 0 (rule (inl refl)))
      (λ rule. on_passes (λ off. rule (inr off))) (λ rule. on_passes (λ off. rule (inr off)))
      (λ rule. on_passes (λ off. rule (inr off))) (λ rule. on_passes (λ off. rule (inr off)))

  with_seed : (k : ℕ) → (k ≡ 0 → ⊥) → (eqb alive 1 || eqb field 0) ≡ true → Unseeded k → field ≡ 0
  with_seed k other e rule = ⊎_elim (λ is. absurd (other is)) (on_kept e) rule

  seed_kept : (k : ℕ) → k ≤ 4 → ((uses_at k (eqb alive 1)).seed || eqb field 0) ≡ true → Unseeded k → field ≡ 0
  seed_kept =
      each_kind (λ (k : ℕ). ((uses_at k (eqb alive 1)).seed || eqb field 0) ≡ true → Unseeded k → field ≡ 0)
      (λ e rule. eqb-true field 0 e)
      (with_seed 1 (λ is. omega (arith, is))) (with_seed 2 (λ is. omega (arith, is)))
      (with_seed 3 (λ is. omega (arith, is))) (with_seed 4 (λ is. omega (arith, is)))

-- the mask, by the version
module _ (version mask : ℕ) where
  abbrev Unmasked : ℕ → Type 0
  Unmasked k = (k ≡ hello_all) ⊎ (read_all ≤ k) → mask ≡ 0

  abbrev Writes : ℕ → Type 0
  Writes k = (k ≡ write_all) ⊎ (k ≡ write_device)

  -- a write's
  write_passes : (mask ≡ 0 → ⊥) → (version < 2 → mask ≡ all_bits) → cond (leb 2 version) (not (eqb mask 0)) (eqb mask all_bits) ≡ true
  write_passes some whole = by_test (leb 2 version) refl
    where
      by_test : (has : Bool) → leb 2 version ≡ has → cond has (not (eqb mask 0)) (eqb mask all_bits) ≡ true
      by_test true is = ap not (ne_eqb mask 0 some)
      by_test false is = eq-eqb mask all_bits (whole (leb-false 2 version is))

  write_kept : cond (leb 2 version) (not (eqb mask 0)) (eqb mask all_bits) ≡ true → (mask ≡ 0 → ⊥) × (version < 2 → mask ≡ all_bits)
  write_kept = by_test (leb 2 version) refl
    where
      by_test : (has : Bool) → leb 2 version ≡ has → cond has (not (eqb mask 0)) (eqb mask all_bits) ≡ true → (mask ≡ 0 → ⊥) × (version < 2 → mask ≡ all_bits)
      by_test true is e = (eqb-false mask 0 (not-true (eqb mask 0) e), λ old. absurd (omega (arith, old, leb-true 2 version is)))
      by_test false is e = let all = eqb-true mask all_bits e in (λ none. omega (arith, none, all), λ old. all)

  good_mask_passes : (k : ℕ) → k ≤ 4 → Unmasked k → (Writes k → mask ≡ 0 → ⊥) → (Writes k → version < 2 → mask ≡ all_bits) → good_mask version k mask ≡ true
  unfolding good_mask
  good_mask_passes =
      each_kind (λ (k : ℕ). Unmasked k → (Writes k → mask ≡ 0 → ⊥) → (Writes k → version < 2 → mask ≡ all_bits) → good_mask version k mask ≡ true)
      (λ zero some whole. eq-eqb mask 0 (zero (inl refl)))
      (λ zero some whole. write_passes (some (inl refl)) (whole (inl refl)))
      (λ zero some whole. write_passes (some (inr refl)) (whole (inr refl)))
      (λ zero some whole. eq-eqb mask 0 (zero (inr (omega arith)))) (λ zero some whole. eq-eqb mask 0 (zero (inr (omega arith))))

  -- what is kept
  record MaskRules (k : ℕ) : Type 0 where
    zero : Unmasked k
    some : Writes k → mask ≡ 0 → ⊥
    whole : Writes k → version < 2 → mask ≡ all_bits

  of_others : (k : ℕ) → (Writes k → ⊥) → eqb mask 0 ≡ true → MaskRules k
  of_others k other e = record { zero = λ rule. eqb-true mask 0 e; some = λ writes. absurd (other writes); whole = λ writes. absurd (other writes) }

  of_write : (k : ℕ) → (k ≡ hello_all → ⊥) → (read_all ≤ k → ⊥) → cond (leb 2 version) (not (eqb mask 0)) (eqb mask all_bits) ≡ true → MaskRules k
  of_write k first last e =
      let kept = write_kept e in
      record { zero = λ rule. absurd (⊎_elim first last rule); some = λ writes. kept.0; whole = λ writes. kept.1 }

  good_mask_rules : (k : ℕ) → k ≤ 4 → good_mask version k mask ≡ true → MaskRules k
  unfolding good_mask
  good_mask_rules =
      each_kind (λ (k : ℕ). good_mask version k mask ≡ true → MaskRules k)
      (of_others 0 (⊎_elim (λ is. omega (arith, is)) (λ is. omega (arith, is))))
      (of_write 1 (λ is. omega (arith, is)) (λ up. omega (arith, up)))
      (of_write 2 (λ is. omega (arith, is)) (λ up. omega (arith, up)))
      (of_others 3 (⊎_elim (λ is. omega (arith, is)) (λ is. omega (arith, is))))
      (of_others 4 (⊎_elim (λ is. omega (arith, is)) (λ is. omega (arith, is))))

-- ---- the entry

module _ (h : Header) (e : Entry) where
  abbrev on : Bool
  on = eqb h.alive 1

  pub mask_passes : Keeps h e → good_mask h.version e.kind e.mask ≡ true
  mask_passes rules = good_mask_passes h.version e.mask e.kind rules.kind rules.mask rules.masked rules.whole

  pub keeps_passes : Keeps h e → keeps_rules h e ≡ true
  unfolding keeps_rules unused_are_zero uses_of
  keeps_passes rules =
      let k = e.kind in
      let register = register_passes on e.reg k rules.kind rules.register in
      let value = value_passes on e.value k rules.kind rules.value in
      let device = device_passes on e.device k rules.kind rules.device in
      let seed = seed_passes h.alive e.seed k rules.kind rules.seed in
      and_both _ _
      (and_both _ _ (and_both _ _ (le-leb (length e.words) 140 rules.words) (le-leb k 4 rules.kind))
      (and_both _ _ (and_both _ _ (and_both _ _ register value) device) seed))
      (mask_passes rules)

  pub passes_keeps : keeps_rules h e ≡ true → Keeps h e
  unfolding keeps_rules unused_are_zero uses_of
  passes_keeps ok =
      let k = e.kind in
      let three = and_left _ (good_mask h.version k e.mask) ok in
      let few : k ≤ 4 = leb-true k 4 (and_right (leb (length e.words) 140) _ (and_left _ _ three)) in
      let uses = uses_at k on in
      let fields = and_right (leb (length e.words) 140 && leb k 4) _ three in
      let first = and_left _ _ fields in
      let two = and_left _ _ first in
      let mask = good_mask_rules h.version e.mask k few (and_right (leb (length e.words) 140 && leb k 4 && unused_are_zero (asked h e)) _ ok) in
      record {
        words = leb-true (length e.words) 140 (and_left _ _ (and_left _ _ three));
        kind = few;
        register = register_kept on e.reg k few (and_left _ _ two);
        value = value_kept on e.value k few (and_right (uses.register || eqb e.reg 0) _ two);
        mask = mask.zero;
        masked = mask.some;
        whole = mask.whole;
        device = device_kept on e.device k few (and_right ((uses.register || eqb e.reg 0) && (uses.value || eqb e.value 0)) _ first);
        seed = seed_kept h.alive e.seed k few
            (and_right ((uses.register || eqb e.reg 0) && (uses.value || eqb e.value 0) && (uses.device || eqb e.device 0)) _ fields);
      }
