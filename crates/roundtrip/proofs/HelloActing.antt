-- HELLOALL: each device acts on it and adds one to the last byte, and no register changes.
use Rattle.std.specs.Prelude.{None}
use mathlib.Core.Path.{◌≡◌, refl, sym, ap, ◌∙◌, subst}
use mathlib.Core.Bool.{cond}
use mathlib.Core.List.{List, [], ◌∷◌, ◌++◌}
use Prim.Native.Nat.{ℕ, suc, ◌<◌}
use native.Mathlib.Omega.{arith}
use lib.Dec.{eqb, lit<}
use lib.ListN.{get_or}
use Rattle.remainder.specs.Turned.{Bytes}
use Rattle.lines.specs.Line.{line_of, byte_at}
use Rattle.lines.proofs.Line.{byte_of_line}
use Rattle.questions.specs.Bytes.{low_high}
use Rattle.questions.specs.declared.question.Question.{Question}
use Rattle.questions.proofs.Good.{hello_shape}
use Rattle.acceptance.proofs.Wire.{bytes_cons, no_bytes}
use Rattle.hearing.specs.Hear.{kind_heard, carried, plainly, heard}
use Rattle.underway.specs.OnTheWay.{on_the_way, wire_of}
use Rattle.passage.specs.Acting.{met, handed}
use Rattle.passage.specs.Pass.{store_of, change_asked}
use Rattle.hearing.proofs.Hearing.{heard_either}
use Rattle.underway.proofs.Way.{way_hello}
use Rattle.roundtrip.specs.Between.{For}
use Rattle.roundtrip.proofs.WhereItActs.{place_of, Acts, acts_with}

plain_hello : (n k : ℕ) (line : List ℕ) → byte_at line 0 ≡ 0x57 → (plainly n k line).kind ≡ 0
unfolding plainly kind_heard
plain_hello n k line e = ap (kind_heard k) e

pub met_is : (n k : ℕ) (line : List ℕ) → met n k line ≡ line_of (on_the_way (heard n k line) k 0 (wire_of line (carried (heard n k line).kind k)))
unfolding met
met_is n k line = refl

handed_is : (n k : ℕ) (line : List ℕ) (own : ℕ)
    → handed n k line own ≡ line_of (on_the_way (heard n k line) (suc k) 1 (low_high own ++ wire_of line (carried (heard n k line).kind k)))
unfolding handed
handed_is n k line own = refl

pub hello_bytes : (k : ℕ) → k < 256 → Bytes (0x57 ∷ 0 ∷ k ∷ [])
hello_bytes k h = bytes_cons 0x57 (0 ∷ k ∷ []) (lit< tt) (bytes_cons 0 (k ∷ []) (lit< tt) (bytes_cons k [] h no_bytes))

pub hello_way : (q : Question) (count added : ℕ) (wire : List ℕ) → q.kind ≡ 0 → on_the_way q count added wire ≡ 0x57 ∷ 0 ∷ count ∷ []
hello_way q count added wire e = way_hello q count added wire e ∙ ap (λ s. s.first ∷ 0 ∷ count ∷ []) (hello_shape q e)

pub no_change : (q : Question) → q.kind ≡ 0 → change_asked q ≡ None
no_change q e = ap (λ (k : ℕ). cond (eqb k 1) (store_of q) (cond (eqb k 2) (store_of q) None)) e

module _ (q : Question) (n k : ℕ) (f : For q n k) (hello : q.kind ≡ 0) (registers : List ℕ) where
  abbrev pub hello_line : List ℕ
  hello_line = line_of (0x57 ∷ 0 ∷ k ∷ [])

  hello_heard : (heard n k hello_line).kind ≡ 0
  hello_heard = heard_either n k hello_line (λ (x : Question). x.kind ≡ 0) plain plain
    where
      plain : (plainly n k hello_line).kind ≡ 0
      plain = plain_hello n k hello_line (byte_of_line (0x57 ∷ 0 ∷ k ∷ []) (hello_bytes k (omega (arith, f.within, f.most))) 0 (lit< tt))

  pub hello_on : (added added' : ℕ) (wire wire' : List ℕ)
      → Acts n k (line_of (on_the_way q k added wire)) (line_of (on_the_way q (suc k) added' wire')) q registers
  hello_on added added' wire wire' =
      subst (λ (l : List ℕ). Acts n k (line_of l) (line_of (on_the_way q (suc k) added' wire')) q registers) (sym (hello_way q k added wire hello))
      (acts_with n k hello_line _ q registers (place_of q n k f) met_here handed_here (no_change (heard n k hello_line) hello_heard ∙ sym (no_change q hello)))
    where
      met_here : met n k hello_line ≡ hello_line
      met_here = met_is n k hello_line ∙ ap line_of (hello_way (heard n k hello_line) k 0 _ hello_heard)

      handed_here : handed n k hello_line (get_or registers (heard n k hello_line).reg 0) ≡ line_of (on_the_way q (suc k) added' wire')
      handed_here = handed_is n k hello_line _ ∙ ap line_of (hello_way (heard n k hello_line) (suc k) 1 _ hello_heard ∙ sym (hello_way q (suc k) added' wire' hello))
