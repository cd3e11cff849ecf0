-- A command on its way along the chain (document 01, "The twin" and "Commands and answers"): its bytes as some devices have left them.
use Rattle.std.specs.Prelude.{ℕ, ◌*◌, List, [], ◌∷◌, ◌++◌, length, drop}
use Rattle.ground.specs.Sweep.{tabulated}
use Rattle.lines.specs.Line.{byte_at}
use Rattle.questions.specs.Question.{by_form}
use Rattle.questions.specs.Shape.{shape_of}
use Rattle.questions.specs.Bytes.{sealed, fill_pairs, write_covered}
use Rattle.questions.specs.declared.question.Question.{Question}

-- The bytes of a command on its way. `count` is HELLOALL's last byte. `added` is what the alive byte has grown by since it stood at the
-- seed. `wire` are the value bytes that devices have put in, and each took the place of a fill byte.
unfoldable pub on_the_way : Question → (count added : ℕ) → (wire : List ℕ) → List ℕ
on_the_way q count added wire =
    by_form q.kind
    ((shape_of q).first ∷ 0 ∷ count ∷ [])
    (sealed q added (write_covered q))
    (sealed q added ((shape_of q).first ∷ q.reg ∷ (wire ++ (0 ∷ []))) ++ drop (length wire) (fill_pairs (shape_of q).values))

-- the value bytes on a line that carries m values: directly after the register byte
abbrev pub wire_of : List ℕ → (m : ℕ) → List ℕ
wire_of line m = tabulated (byte_at line) (2 * m) 2
