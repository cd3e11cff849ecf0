-- `whole_in_bytes` meets its contract: two bytes a word.
use mathlib.Core.Path.{ap}
use native.Mathlib.Omega.{arith}
use Prim.Native.Nat.{◌*◌}
use Rattle.std.specs.Prelude.{Some}
use Rattle.questions.specs.declared.question.Shape.{Shape}
use Rattle.reasons.specs.Reason.{found}
use Rattle.reasons.specs.declared.Spot.TheVariants.{Whole}
use Rattle.c_reasons.proofs.OnWords.{words_le}
use Rattle.c_reasons.proofs.whole_in_bytes.Goals as goal

pub overflow_mul-result : goal.overflow_mul-result
overflow_mul-result c =
    omega (arith, ap (λ (s : Shape). s.words) c.shape_of-s.ensures, words_le c.args.q, c.well_formed.0)

pub returns : goal.returns
returns c =
    let a = c.args in
    ap (λ (s : Shape). found a.b.why Whole a.bytes (Some (2 * s.words))) c.shape_of-s.ensures
