-- `is_as_left` meets its contract: the command is laid, and the line held to it.
use Rattle.questions.proofs.Good.{good_first, good_values}
use Rattle.underway.proofs.is_as_left.Goals as goal

pub lay-requires : goal.lay-requires
lay-requires c = let q = c.args.q in (good_first q c.requires, good_values q c.requires)
