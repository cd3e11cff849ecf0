-- Values on the wire, one more of them: a device below the others comes last on the line, one above them first.
use mathlib.Core.Path.{◌≡◌, ap, ◌∙◌}
use mathlib.Core.List.{List, [], ◌∷◌, ◌++◌, reverse, reverse-cons, reverse-append}
use Prim.Native.Nat.{ℕ, ◌*◌}
use lib.ListN.{length, length-reverse}
use Rattle.packing.specs.Words.{as_bytes}
use Rattle.packing.proofs.Back.{bytes_append, length_bytes}
use Rattle.questions.specs.Bytes.{low_high, on_wire}

pub wire_cons : (v : ℕ) (values : List ℕ) → on_wire (v ∷ values) ≡ on_wire values ++ low_high v
unfolding on_wire as_bytes
wire_cons v values = ap as_bytes (reverse-cons v values) ∙ bytes_append (reverse values) (v ∷ [])

pub wire_next : (values : List ℕ) (v : ℕ) → on_wire (values ++ (v ∷ [])) ≡ low_high v ++ on_wire values
unfolding on_wire as_bytes
wire_next values v = ap as_bytes (reverse-append values (v ∷ []))

pub length_wire : (values : List ℕ) → length (on_wire values) ≡ 2 * length values
unfolding on_wire
length_wire values = length_bytes (reverse values) ∙ ap (λ (n : ℕ). 2 * n) (length-reverse values)
