-- `pack` meets its contract: the loop keeps the bytes of the words so far at the front.
use mathlib.Core.Path.{◌≡◌, refl, ap, ap₂, ◌∙◌}
use mathlib.Core.List.{List}
use Prim.Native.Nat.{ℕ, ◌/◌}
use native.Mathlib.Omega.{arith}
use lib.ListN.{length, take}
use lib.Seq.{sets, get_or-take, length-take-le}
use Rattle.packing.specs.Words.{as_bytes, with_word}
use Rattle.packing.proofs.Storing.{bytes_next, all_that_fit}
use Rattle.packing.proofs.pack.Goals as goal

pub loop-k-init : goal.loop-k-init
unfolding as_bytes
loop-k-init c = refl

pub loop-k-preserved : goal.loop-k-preserved
loop-k-preserved c =
    let at = c.loop-k in
    let a = c.args in
    let n = c.min-fitting.result in
    let size : length (take n a.words.now) ≡ n = length-take-le n a.words.now (omega (arith, c.min-fitting.ensures)) in
    c.put_bytes.ensures
    ∙ ap₂ (λ (l : List ℕ) (w : ℕ). with_word l at.k w) at.invariant (get_or-take n a.words.now at.k 0 (omega (arith, size, c.loop-k-test.true)))
    ∙ bytes_next a.out.now a.words.now at.k (omega (arith, size, c.loop-k-test.true, c.min-fitting.ensures))

pub returns : goal.returns
returns c =
    let at = c.loop-k in
    let a = c.args in
    let n = c.min-fitting.result in
    let size : length (take n a.words.now) ≡ n = length-take-le n a.words.now (omega (arith, c.min-fitting.ensures)) in
    let all : at.k ≡ n = omega (arith, size, at.auto.k-end, c.loop-k-test.false) in
    at.invariant
    ∙ ap (λ (l : List ℕ). sets a.out.now 0 (as_bytes l))
    (all_that_fit a.words.now at.k (length a.out.now / 2) (omega (arith, all, c.min-fitting.ensures)) (omega (arith, all, c.min-fitting.ensures)) (omega (arith, all, c.min-fitting.ensures)))
