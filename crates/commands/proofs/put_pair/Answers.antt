-- `put_pair` meets its contract: the four words stored are those of C2 and of D3.
use native.Mathlib.Omega.{arith}
use lib.ListN.{length-set}
use Rattle.commands.proofs.Filled.{stored_pair}
use Rattle.commands.proofs.put_pair.Goals as goal

pub bounds-out-at-2 : goal.bounds-out-at-2
bounds-out-at-2 c = simp length-set (omega arith)

pub bounds-out-at-3 : goal.bounds-out-at-3
bounds-out-at-3 c = simp length-set (omega arith)

pub bounds-out-at-4 : goal.bounds-out-at-4
bounds-out-at-4 c = simp length-set (omega arith)

pub returns : goal.returns
returns c =
    let a = c.args in
    stored_pair a.out.now a.at _ _ _ _ c.word_of.ensures c.word_of-2.ensures c.word_of-3.ensures c.word_of-4.ensures
