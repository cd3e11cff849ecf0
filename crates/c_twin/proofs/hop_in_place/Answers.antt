-- `hop_in_place` meets its contract: the device steps on the words of its own 512 bytes, and what changes of them is stored.
use mathlib.Core.Path.{ap, ◌∙◌}
use Prim.Native.Nat.{ℕ}
use lib.ListN.{replicate, length-replicate}
use Rattle.passage.specs.Acting.{handed_on}
use Rattle.packing.specs.Words.{words_of}
use Rattle.twin.specs.Step.{with_change}
use Rattle.c_twin.proofs.Bytes.{own_unpacked}
use Rattle.c_twin.proofs.hop_in_place.Goals as goal

pub returns : goal.returns
returns c =
    let a = c.args in
    let pass = c.pass-change in
    let unpack = c.unpack in
    let own = own_unpacked a.memory.now (replicate {A = ℕ} 256 0) unpack.new.out a.device c.requires (length-replicate {A = ℕ} 256 0) unpack.ensures in
    record {
      remembers = c.keep.ensures ∙ ap (with_change (words_of a.memory.now) a.device) pass.ensures.says;
      leaves = pass.ensures.leaves ∙ ap (handed_on a.n a.device a.line.now) own;
    }
