-- `put_words` meets its contract: the words are packed at the front of the part from their place on, and there is room for all of them.
use Prim.Native.Nat.{◌*◌}
use native.Mathlib.Omega.{arith}
use Rattle.c_twin.proofs.Bytes.{packed_from}
use Rattle.c_twin.proofs.put_words.Goals as goal

pub returns : goal.returns
returns c =
    let a = c.args in
    packed_from a.memory.now a.words.now (2 * a.at) (omega (arith, c.requires)) _ c.pack.ensures
