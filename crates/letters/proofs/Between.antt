-- A question covers just the devices of its span; so a read of the written register decides just where its span and the write's meet.
use mathlib.Core.Path.{◌≡◌, refl, sym, ap, ap₂, ◌∙◌}
use mathlib.Core.Bool.{Bool, true, false, ◌&&◌}
use Prim.Native.Nat.{ℕ, zero, suc, ◌+◌, ◌≤◌, ◌<◌, min, max}
use native.Mathlib.Omega.{arith}
use lib.Dec.{leb, ltb, eqb, leb-zero, leb-suc-zero}
use borrow.Author.Tests.{ltb-true, leb-true, eqb-true, eqb-false, lt-ltb, le-leb, eq-eqb}
use Rattle.ground.proofs.Test.{and_left, and_right, refuted}
use Rattle.questions.specs.Question.{covers_at, covers}
use Rattle.questions.specs.declared.question.Question.{Question}
use Rattle.letters.specs.Letters.{decides}
use Rattle.letters.specs.Span.{span_at, span_of}
use Rattle.std.specs.declared.ops.Range.{Range}

abbrev within : Range ℕ → ℕ → Bool
within s a = leb s.start a && ltb a s.end

-- one device is a span of its own
alone : (a d : ℕ) → eqb a d ≡ (leb d a && ltb a (d + 1))
alone a d = by_test (eqb a d) refl
  where
    by_test : (t : Bool) → eqb a d ≡ t → t ≡ (leb d a && ltb a (d + 1))
    by_test true e =
        let same = eqb-true a d e in
        sym (ap₂ (λ (t u : Bool). t && u) (le-leb d a (omega arith)) (lt-ltb a (d + 1) (omega arith)))
    by_test false e =
        sym (refuted (leb d a && ltb a (d + 1)) (λ both.
        let low = leb-true d a (and_left (leb d a) (ltb a (d + 1)) both) in
        let high = ltb-true a (d + 1) (and_right (leb d a) (ltb a (d + 1)) both) in
        eqb-false a d e (omega arith)))

covers_at_lem : (k : ℕ) (q : Question) (a : ℕ) → covers_at k q a ≡ within (span_at k q) a
covers_at_lem zero q a = sym (ap₂ (λ (t u : Bool). t && u) (leb-zero a) (leb-suc-zero a))
covers_at_lem (suc zero) q a = sym (ap (λ (t : Bool). t && ltb a q.n) (leb-zero a))
covers_at_lem (suc (suc zero)) q a = alone a q.device
covers_at_lem (suc (suc (suc zero))) q a = sym (ap (λ (t : Bool). t && ltb a q.n) (leb-zero a))
covers_at_lem (suc (suc (suc (suc k)))) q a = alone a q.device

covers_span : (q : Question) (a : ℕ) → covers q a ≡ within (span_of q) a
unfolding covers span_of
covers_span q a = covers_at_lem q.kind q a

covered : (q : Question) (a : ℕ) → (span_of q).start ≤ a → a < (span_of q).end → covers q a ≡ true
covered q a low high = covers_span q a ∙ ap₂ (λ (t u : Bool). t && u) (le-leb _ _ low) (lt-ltb _ _ high)

covered_only : (q : Question) (a : ℕ) → covers q a ≡ true → ((span_of q).start ≤ a) × (a < (span_of q).end)
covered_only q a e =
    let s = span_of q in
    let both = sym (covers_span q a) ∙ e in
    (leb-true s.start a (and_left _ (ltb a s.end) both), ltb-true a s.end (and_right (leb s.start a) _ both))

-- a question that decides covers the device
pub decides_covers : (write q : Question) (a : ℕ) → decides write q a ≡ true → covers q a ≡ true
unfolding decides
decides_covers write q a d = and_right (eqb q.reg write.reg) (covers q a) (and_left _ (covers write a) d)

module _ (write q : Question) where
  -- the devices that a question and the write both cover, of the 32
  abbrev pub from : ℕ
  from = max (span_of q).start (span_of write).start

  abbrev pub upto : ℕ
  upto = min (min (span_of q).end (span_of write).end) 32

  pub decides_between : (a : ℕ) → q.reg ≡ write.reg → from ≤ a → a < upto → decides write q a ≡ true
  unfolding decides
  decides_between a same low high =
      simp (eq-eqb _ _ same, covered q a (omega arith) (omega arith), covered write a (omega arith) (omega arith))

  pub decides_only_between : (a : ℕ) → a < 32 → decides write q a ≡ true → (from ≤ a) × (a < upto)
  unfolding decides
  decides_only_between a h d =
      let asked = covered_only q a (decides_covers write q a d) in
      let written = covered_only write a (and_right (eqb q.reg write.reg && covers q a) (covers write a) d) in
      (omega arith, omega arith)
