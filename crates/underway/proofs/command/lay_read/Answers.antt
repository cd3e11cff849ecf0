-- `lay_read` meets its contract: sealed, the bytes leave room for the fill pairs.
use Rattle.std.proofs.Common.{[], ◌∷◌, length, ap, arith, length-append}
use Rattle.underway.proofs.Way.{sealed_most}
use Rattle.underway.proofs.command.lay_read.Goals as goal

pub push_pairs-requires : goal.push_pairs-requires
push_pairs-requires c =
    let a = c.args in
    omega (
      arith,
      ap length c.seal.ensures,
      sealed_most a.q a.added c.push-3.new.self,
      ap length c.push-3.ensures,
      length-append c.push_all.new.self (0 ∷ []),
      ap length c.push_all.ensures,
      length-append c.push-2.new.self a.wire.now,
      ap length c.push-2.ensures,
      length-append c.push.new.self (a.q.reg ∷ []),
      ap length c.push.ensures,
      length-append c.nothing.result (a.first ∷ []),
      ap length c.nothing.ensures,
    )
