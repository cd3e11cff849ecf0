-- The fields that each kind of question uses in a job file (document 01, "Job file and certificate"); a field that its kind does not use is 0,
-- the seed too where alive is off, and for HELLOALL.
use Rattle.std.specs.Prelude.{Bool, true, false, ◌&&◌, ◌||◌, ℕ, eqb}
use Rattle.questions.specs.Question.{by_kind}
use Rattle.questions.specs.declared.question.Question.{Question}
use Rattle.used_fields.specs.declared.Uses.{Uses}

abbrev pub uses : (register value device seed : Bool) → Uses
uses register value device seed = record { register = register; value = value; device = device; seed = seed }

-- the fields that each kind uses; the seed only where alive is on
abbrev pub uses_at : (kind : ℕ) → (on : Bool) → Uses
uses_at kind on =
    by_kind kind
    (uses false false false false)
    (uses true true false on)
    (uses true true true on)
    (uses true false false on)
    (uses true false true on)

unfoldable pub uses_of : Question → Uses
uses_of q = uses_at q.kind (eqb q.alive 1)

unfoldable pub unused_are_zero : Question → Bool
unused_are_zero q =
    ((uses_of q).register || eqb q.reg 0) && ((uses_of q).value || eqb q.value 0)
    && ((uses_of q).device || eqb q.device 0) && ((uses_of q).seed || eqb q.seed 0)
