-- Each bit adds at most 1, and a slice has fewer bits than the count can hold.
use Rattle.std.proofs.Common.{rules, arith, ◌≡◌, ℕ, ◌^◌, ◌<◌, length, eqb}
use Rattle.std.specs.List.{count_by}
use Rattle.std.proofs.lemmas.Iterator.{YieldsList-from_slice}
use Rattle.std.proofs.lemmas.Iterator.Adapters.{fits_from_length, at_most_from_yields_List}
use Rattle.std.proofs.lemmas.List.Sums.{count_by-le-length}
use Rattle.distances.proofs.count.singles.Goals as goal

pub sum-requires-clause-fits : goal.sum-requires-clause-fits
sum-requires-clause-fits c =
    let few : length c.args.bits.now < 2 ^ 63 = search rules in
    fits_from_length _ _ (2 ^ 63) (2 ^ 64) (at_most_from_yields_List (YieldsList-from_slice c.args.bits.now cc) (omega (arith, few)))
    c.map.ensures.closure (omega arith) (λ x r q k. search rules)

pub returns : goal.returns
returns c =
    let wanted = λ (bit : ℕ). eqb bit c.args.wanted in
    let total : c.sum.result ≡ count_by wanted c.args.bits.now = search rules in
    omega (arith, total, count_by-le-length wanted c.args.bits.now)
