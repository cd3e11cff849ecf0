-- `keep` meets its contract: the value's two bytes are stored in their place, which changes that word of the memory and no other.
use mathlib.Core.Path.{sym, ap, ◌∙◌}
use Rattle.packing.specs.Words.{words_of}
use Rattle.twin.specs.Step.{with_change}
use Rattle.c_twin.proofs.Bytes.{words_sets}
use Rattle.c_twin.proofs.keep.Goals as goal

pub returns-in-Some : goal.returns-in-Some
returns-in-Some c =
    let a = c.args in
    ap words_of c.put_words.ensures ∙ words_sets a.memory.now _ _
    ∙ ap (with_change (words_of a.memory.now) a.device) (sym c.in-Some.is)
