-- `values_found` meets its contract: with room for 32 values a line is judged as with room for its own.
use mathlib.Core.Path.{◌≡◌, ap, ◌∙◌}
use mathlib.Core.List.{List}
use Prim.Native.Nat.{ℕ, ◌+◌, min}
use native.Mathlib.Omega.{arith}
use lib.ListN.{length-replicate}
use Rattle.questions.specs.Shape.{shape_of}
use Rattle.questions.specs.declared.question.Question.{Question}
use Rattle.readings.specs.Reading.{values_taken}
use Rattle.judging.specs.Judge.{judge_of}
use Rattle.judging.proofs.Bounds.{room_enough, enough_room}
use Rattle.parts.proofs.values_found.Goals as goal

room_for_all : (q : Question) (line : List ℕ) → judge_of q line 32 ≡ judge_of q line (shape_of q).values
room_for_all q line =
    let more = (shape_of q).values + 32 in
    let least : 32 ≡ min more 32 = omega arith in
    ap (judge_of q line) least ∙ room_enough q line more ∙ enough_room q line more (omega arith)

pub returns : goal.returns
returns c =
    let a = c.args in
    c.values_taken.ensures
    ∙ ap values_taken (c.read.ensures.says ∙ ap (judge_of a.q a.line.now) (length-replicate {A = ℕ} 32 0) ∙ room_for_all a.q a.line.now)
