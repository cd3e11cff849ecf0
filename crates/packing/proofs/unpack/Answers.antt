-- `unpack` meets its contract: the loop keeps the words so far at the front of those that have room, and what has none is stored nowhere.
use mathlib.Core.Path.{◌≡◌, sym, ap, ap₂, ◌∙◌}
use mathlib.Core.List.{List, ◌++◌}
use Prim.Native.Nat.{ℕ, ◌/◌}
use native.Mathlib.Omega.{arith}
use lib.ListN.{length, set, take, drop}
use lib.Seq.{sets, length-take-le}
use Rattle.ground.specs.Sweep.{tabulated}
use Rattle.ground.proofs.Sweep.{length_tabulated}
use Rattle.ground.proofs.Lists.{filled_next, filled_room, filled_whole, sets_front}
use Rattle.packing.specs.Words.{word_at}
use Rattle.packing.proofs.Storing.{words_tabulated}
use Rattle.packing.proofs.unpack.Goals as goal

pub loop-k-preserved : goal.loop-k-preserved
loop-k-preserved c =
    let a = c.args in
    let at = c.loop-k in
    ap₂ (λ (l : List ℕ) (w : ℕ). set l at.k w) at.invariant c.word_at.ensures
    ∙ filled_next (word_at a.bytes.now) (take c.min-words.result a.out.now) at.k

pub returns : goal.returns
returns c =
    let a = c.args in
    let at = c.loop-k in
    let n = c.min-words.result in
    let out = a.out.now in
    let f = word_at a.bytes.now in
    let size : length (take n out) ≡ n = length-take-le n out (omega (arith, c.min-words.ensures)) in
    let all : at.k ≡ length (take n out) = omega (arith, at.auto.k-end, c.loop-k-test.false) in
    let filled = at.invariant ∙ ap (λ (m : ℕ). sets (take n out) 0 (tabulated f m 0)) all ∙ filled_whole f (take n out) ∙ ap (λ (m : ℕ). tabulated f m 0) size in
    ap₂ (λ (l : List ℕ) (m : ℕ). l ++ drop m out) filled (sym (length_tabulated f n 0))
    ∙ sym (sets_front (tabulated f n 0) out (omega (arith, length_tabulated f n 0, c.min-words.ensures)))
    ∙ ap (λ (m : ℕ). sets out 0 (tabulated f m 0)) c.min-words.ensures ∙ filled_room f out (length a.bytes.now / 2)
    ∙ ap (sets out 0) (sym (words_tabulated a.bytes.now))
