-- `hand` meets its contract: the command is laid, and its line put in the place of the one that stood.
use Rattle.questions.proofs.Good.{good_first, good_values}
use Rattle.underway.proofs.hand.Goals as goal

pub lay-requires : goal.lay-requires
lay-requires c = let q = c.args.q in (good_first q c.requires.0, good_values q c.requires.0)
