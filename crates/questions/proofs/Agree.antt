-- Nothing is left open: two answers that meet a function's contract, as its source states it, are the same.
use mathlib.Core.Path.{◌≡◌, refl, sym, ap, ◌∙◌}
use native.Mathlib.Omega.{arith}
use Prim.Native.Nat.{ℕ}
use Rattle.std.specs.Prelude.{Result, Ok, Err}
use Rattle.ground.specs.Agree.{Settled}
use Rattle.questions.specs.Question.{kind_at, kind_number, Names}
use Rattle.questions.specs.declared.question.Kind.{Kind}
use Rattle.questions.specs.declared.question.Kind.TheVariants.{HelloAll, WriteAll, WriteDevice, ReadAll, ReadDevice}
use Rattle.questions.specs.declared.question.NoKind.{NoKind}
use Rattle.questions.proofs.ByKind.{named_most}
use Rattle.questions.proofs.question.KindTryFromU8.try_from.Reads as try_from
use Rattle.questions.proofs.question.Question.asks.Reads as asks
use Rattle.questions.proofs.question.ask.Reads as ask
use Rattle.questions.proofs.question.is_good.Reads as is_good
use Rattle.questions.proofs.question.is_covered.Reads as is_covered
use Rattle.questions.proofs.question.shape_of.Reads as shape_of

pub ask_settled : Settled ask.Post
ask_settled l given r r' left left' p q = p ∙ sym q

pub is_good_settled : Settled is_good.Post
is_good_settled l given r r' left left' p q = p ∙ sym q

pub is_covered_settled : Settled is_covered.Post
is_covered_settled l given r r' left left' p q = p ∙ sym q

pub shape_of_settled : Settled shape_of.Post
shape_of_settled l given r r' left left' p q = p ∙ sym q

pub asks_settled : Settled asks.Post
asks_settled l given r r' left left' p q = p ∙ sym q

-- a number names one kind, and is the name's
named_kind : {k : ℕ} (kind : Kind) → kind_number kind ≡ k → kind ≡ kind_at k
named_kind kind e = back kind ∙ ap kind_at e
  where
    back : (kind : Kind) → kind ≡ kind_at (kind_number kind)
    back HelloAll = refl
    back WriteAll = refl
    back WriteDevice = refl
    back ReadAll = refl
    back ReadDevice = refl

one_name : (k : ℕ) (r r' : Result Kind NoKind) → Names k r → Names k r' → r ≡ r'
one_name k (Ok x) (Ok y) p q = ap Ok (named_kind x p ∙ sym (named_kind y q))
one_name k (Ok x) (Err n) p q = let most = named_most x p in absurd (omega (arith, most, q))
one_name k (Err n) (Ok y) p q = let most = named_most y q in absurd (omega (arith, most, p))
one_name k (Err n) (Err m) p q = refl

pub try_from_settled : Settled try_from.Post
try_from_settled l given r r' left left' p q = one_name _ r r' p q
