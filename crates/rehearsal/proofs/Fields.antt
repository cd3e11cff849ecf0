-- An entry's fields laid one behind the other: those up to the value, the mask where the version has one, and the others.
use mathlib.Core.Path.{◌≡◌, sym, ap, ap₂, ◌∙◌}
use mathlib.Core.Bool.{Bool, cond}
use mathlib.Core.List.{List, [], ◌∷◌, ◌++◌}
use Prim.Native.Nat.{ℕ, ◌+◌, ◌%◌, ◌<◌, ◌≤◌}
use Rattle.std.specs.Int.{w16, to_le_bytes}
use native.Mathlib.Omega.{arith}
use lib.ListN.{length}
use lib.Seq.{sets}
use borrow.Author.Tests.{le-leb, lt-leb}
use Rattle.ground.proofs.Lists.{sets_append}
use Rattle.packing.specs.Words.{low_high}
use Rattle.questions.specs.declared.question.Question.{Question}
use Rattle.jobs.specs.Format.{since}
use Rattle.rehearsal.specs.Answering.{fields_for, MaskPut}

module _ (version mask to : ℕ) (out : List ℕ) where
  pub no_mask : version < 2 → MaskPut version mask to out out to
  no_mask old =
      let none : since 2 version (low_high mask) ≡ [] = ap (λ (has : Bool). cond has (low_high mask) []) (lt-leb 2 version old) in
      record { behind = omega (arith, ap length none); leaves = sym (ap (sets out to) none) }

  pub a_mask : (out' : List ℕ) → 2 ≤ version → out' ≡ sets out to (low_high mask) → MaskPut version mask to out out' (to + 2)
  a_mask out' new laid =
      let all : since 2 version (low_high mask) ≡ low_high mask = ap (λ (has : Bool). cond has (low_high mask) []) (le-leb 2 version new) in
      record { behind = omega (arith, ap length all); leaves = laid ∙ sym (ap (sets out to) all) }

pub fields_laid : (version mask words to behind : ℕ) (q : Question) (out out₁ out₂ out₃ : List ℕ)
    → out₁ ≡ sets out to (q.kind ∷ q.reg ∷ low_high q.value) → MaskPut version mask (to + 4) out₁ out₂ behind
    → out₃ ≡ sets out₂ behind (q.device ∷ q.seed ∷ low_high words) → out₃ ≡ sets out to (fields_for version q mask words)
fields_laid version mask words to behind q out out₁ out₂ out₃ head put tail =
    let first = q.kind ∷ q.reg ∷ low_high q.value in
    let held = since 2 version (low_high mask) in
    let last = q.device ∷ q.seed ∷ low_high words in
    tail ∙ ap₂ (λ (l : List ℕ) (k : ℕ). sets l k last) (put.leaves ∙ ap (λ (l : List ℕ). sets l (to + 4) held) head) put.behind
    ∙ sym (sets_append (sets out to first) (to + 4) held last) ∙ sym (sets_append out to first (held ++ last))

-- a word's two bytes
pub le_bytes : (w : ℕ) (bytes : List ℕ) → w < 65536 → bytes ≡ to_le_bytes w16 w → bytes ≡ low_high w
le_bytes w bytes small is = is ∙ ap (λ (high : ℕ). w % 256 ∷ high ∷ []) (omega arith)
