-- `put_words` meets its contract: the words' bytes stand at the front of the buffer.
use mathlib.Core.Path.{◌≡◌, ap, ◌∙◌}
use mathlib.Core.List.{List}
use Prim.Native.Nat.{ℕ, ◌*◌, ◌/◌}
use native.Mathlib.Omega.{arith}
use lib.ListN.{length, take, drop, length-take, replicate, length-replicate}
use lib.Seq.{sets, take_all, take_at, length-sets}
use Rattle.ground.proofs.Lists.{sets_front}
use Rattle.packing.specs.Words.{as_bytes}
use Rattle.packing.proofs.Back.{length_bytes}
use Rattle.rehearsal.proofs.entry.put_words.Goals as goal

pub slice_bounds-store-end : goal.slice_bounds-store-end
slice_bounds-store-end c =
    let words = c.args.words.now in
    let blank = replicate {A = ℕ} 280 0 in
    simp length-take (omega (arith, c.requires, ap length c.pack.ensures, length-sets blank 0 (as_bytes (take (length blank / 2) words)), length-replicate {A = ℕ} 280 0))

pub returns : goal.returns
returns c =
    let a = c.args in
    let words = a.words.now in
    let blank = replicate {A = ℕ} 280 0 in
    let size = length_bytes words in
    let all : take (length blank / 2) words ≡ words = take_all (length blank / 2) words (omega (arith, c.requires, length-replicate {A = ℕ} 280 0)) in
    let packed = c.pack.ensures ∙ ap (λ (l : List ℕ). sets blank 0 (as_bytes l)) all ∙ sets_front (as_bytes words) blank (omega (arith, c.requires, length-replicate {A = ℕ} 280 0, size)) in
    let front = ap (take (2 * length words)) packed ∙ take_at (as_bytes words) (drop (length (as_bytes words)) blank) (2 * length words) size in
    c.store.ensures ∙ ap (sets a.out.now a.to) front
