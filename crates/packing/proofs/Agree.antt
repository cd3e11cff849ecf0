-- Nothing is left open: two calls that meet a function's contract, as its source states it, answer the same and leave the same in the lent memory.
use mathlib.Core.Path.{sym, ◌∙◌}
use Rattle.ground.specs.Agree.{Settled, SettledIn}
use Rattle.packing.proofs.unpack.Reads as unpack
use Rattle.packing.proofs.pack.Reads as pack
use Rattle.packing.proofs.store.Reads as store
use Rattle.packing.proofs.take_line.Reads as take_line
use Rattle.packing.proofs.join.Reads as join

pub unpack_settled_out : SettledIn (λ l left. left.1.0.now) unpack.Post
unpack_settled_out l given r r' left left' p q = p ∙ sym q

pub pack_settled_out : SettledIn (λ l left. left.1.0.now) pack.Post
pack_settled_out l given r r' left left' p q = p ∙ sym q

pub store_settled_out : SettledIn (λ l left. left.0.now) store.Post
store_settled_out l given r r' left left' p q = p ∙ sym q

pub take_line_settled : Settled take_line.Post
take_line_settled l given r r' left left' p q = p.counts ∙ sym q.counts

pub take_line_settled_words : SettledIn (λ l left. left.1.0.now) take_line.Post
take_line_settled_words l given r r' left left' p q = p.leaves ∙ sym q.leaves

pub join_settled : Settled join.Post
join_settled l given r r' left left' p q = p ∙ sym q
