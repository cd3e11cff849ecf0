-- Laws of going by kind.
use mathlib.Core.Path.{◌≡◌, refl, sym, ap, subst, ◌∙◌}
use Prim.Native.Nat.{ℕ, zero, suc, ◌≤◌}
use native.Mathlib.Omega.{arith}
use Rattle.questions.specs.Question.{by_kind, by_name, by_form, kind_at, kind_number}
use Rattle.questions.specs.declared.question.Kind.{Kind}
use Rattle.questions.specs.declared.question.Kind.TheVariants.{HelloAll, WriteAll, WriteDevice, ReadAll, ReadDevice}

-- where a question asks what has this name, the entry is the name's
pub asked : {A : Type 0} (k : ℕ) (h wa wo ra ro : A) {kind named : Kind} → kind ≡ kind_at k → kind ≡ named
    → by_name named h wa wo ra ro ≡ by_kind k h wa wo ra ro
asked k h wa wo ra ro e is = ap (λ (k : Kind). by_name k h wa wo ra ro) (sym is ∙ e) ∙ entry k
  where
    entry : (k : ℕ) → by_name (kind_at k) h wa wo ra ro ≡ by_kind k h wa wo ra ro
    entry zero = refl
    entry (suc zero) = refl
    entry (suc (suc zero)) = refl
    entry (suc (suc (suc zero))) = refl
    entry (suc (suc (suc (suc k)))) = refl

-- and its number is the name's, or where that is READDEVICE 4 or more
abbrev pub Numbered : Kind → ℕ → Type 0
Numbered HelloAll k = k ≡ 0
Numbered WriteAll k = k ≡ 1
Numbered WriteDevice k = k ≡ 2
Numbered ReadAll k = k ≡ 3
Numbered ReadDevice k = 4 ≤ k

pub asked_number : (k : ℕ) {kind named : Kind} → kind ≡ kind_at k → kind ≡ named → Numbered named k
asked_number k e is = subst (λ (kind : Kind). Numbered kind k) (sym e ∙ is) (number k)
  where
    number : (k : ℕ) → Numbered (kind_at k) k
    number zero = refl
    number (suc zero) = refl
    number (suc (suc zero)) = refl
    number (suc (suc (suc zero))) = refl
    number (suc (suc (suc (suc k)))) = omega arith

-- the number that has a name is the name's
pub named_number : {k : ℕ} {kind named : Kind} → kind_number kind ≡ k → kind ≡ named → k ≡ kind_number named
named_number e is = sym e ∙ ap kind_number is

pub named_most : {k : ℕ} (kind : Kind) → kind_number kind ≡ k → k ≤ 4
named_most HelloAll e = omega arith
named_most WriteAll e = omega arith
named_most WriteDevice e = omega arith
named_most ReadAll e = omega arith
named_most ReadDevice e = omega arith

-- of the kinds that are put to one device, the second entry is as the last
pub one_device : {A : Type 0} (k : ℕ) (h wa wo ra : A) → (k ≡ 0 → ⊥) → (k ≡ 1 → ⊥) → (k ≡ 3 → ⊥) → by_kind k h wa wo ra wo ≡ wo
one_device zero h wa wo ra n0 n1 n3 = absurd (n0 refl)
one_device (suc zero) h wa wo ra n0 n1 n3 = absurd (n1 refl)
one_device (suc (suc zero)) h wa wo ra n0 n1 n3 = refl
one_device (suc (suc (suc zero))) h wa wo ra n0 n1 n3 = absurd (n3 refl)
one_device (suc (suc (suc (suc k)))) h wa wo ra n0 n1 n3 = refl

-- a kind that is none of the first four has the last entry
pub last_kind : {A : Type 0} (k : ℕ) (h wa wo ra ro : A) → (k ≡ 0 → ⊥) → (k ≡ 1 → ⊥) → (k ≡ 2 → ⊥) → (k ≡ 3 → ⊥) → by_kind k h wa wo ra ro ≡ ro
last_kind zero h wa wo ra ro n0 n1 n2 n3 = absurd (n0 refl)
last_kind (suc zero) h wa wo ra ro n0 n1 n2 n3 = absurd (n1 refl)
last_kind (suc (suc zero)) h wa wo ra ro n0 n1 n2 n3 = absurd (n2 refl)
last_kind (suc (suc (suc zero))) h wa wo ra ro n0 n1 n2 n3 = absurd (n3 refl)
last_kind (suc (suc (suc (suc k)))) h wa wo ra ro n0 n1 n2 n3 = refl

-- ---- HELLOALL, the writes, the reads

pub of_hello : {A : Type 0} (k : ℕ) (h w r : A) → k ≡ 0 → by_form k h w r ≡ h
of_hello k h w r e = ap (λ (k : ℕ). by_form k h w r) e

pub of_write : {A : Type 0} (k : ℕ) (h w r : A) → 1 ≤ k → k ≤ 2 → by_form k h w r ≡ w
of_write zero h w r lo hi = absurd (omega arith)
of_write (suc zero) h w r lo hi = refl
of_write (suc (suc zero)) h w r lo hi = refl
of_write (suc (suc (suc k))) h w r lo hi = absurd (omega arith)

pub of_read : {A : Type 0} (k : ℕ) (h w r : A) → 3 ≤ k → by_form k h w r ≡ r
of_read zero h w r lo = absurd (omega arith)
of_read (suc zero) h w r lo = absurd (omega arith)
of_read (suc (suc zero)) h w r lo = absurd (omega arith)
of_read (suc (suc (suc zero))) h w r lo = refl
of_read (suc (suc (suc (suc k)))) h w r lo = refl

-- what holds of each of the five kinds holds of every kind up to 4
pub each_kind : (P : ℕ → Type 0) → P 0 → P 1 → P 2 → P 3 → P 4 → (k : ℕ) → k ≤ 4 → P k
each_kind P p0 p1 p2 p3 p4 zero h = p0
each_kind P p0 p1 p2 p3 p4 (suc zero) h = p1
each_kind P p0 p1 p2 p3 p4 (suc (suc zero)) h = p2
each_kind P p0 p1 p2 p3 p4 (suc (suc (suc zero))) h = p3
each_kind P p0 p1 p2 p3 p4 (suc (suc (suc (suc zero)))) h = p4
each_kind P p0 p1 p2 p3 p4 (suc (suc (suc (suc (suc k))))) h = absurd (omega arith)
