-- Devices stepped on bytes: the line unpacked, the devices one after the other on it, the line packed again; a line longer than any command as it
-- came; and where the call is turned away nothing changes.
use mathlib.Core.Path.{◌≡◌, refl, sym, ap, subst, ◌∙◌}
use mathlib.Core.Bool.{Bool, true, false, cond, ◌&&◌}
use mathlib.Core.List.{List, ◌++◌}
use Prim.Native.Nat.{ℕ, zero, suc, ◌+◌, ◌*◌, ◌/◌, ◌%◌, ◌≤◌, ◌<◌}
use native.Mathlib.Omega.{arith}
use lib.Dec.{leb, ltb}
use lib.ListN.{length, take, drop}
use lib.Seq.{sets, take_at, length-take-le}
use borrow.Author.Tests.{lt-ltb, le-ltb}
use Rattle.ground.proofs.Lists.{sets_front}
use Rattle.remainder.specs.Turned.{Bytes}
use Rattle.lines.specs.Write.{at_front}
use Rattle.lines.proofs.LeftBy.{left_written, left_as_it_was}
use Rattle.packing.specs.Words.{words_of, as_bytes, line_on, line_in, LineTaken}
use Rattle.packing.proofs.Taken.{even_line, whole_line, line_front, packed_front}
use Rattle.packing.proofs.Back.{length_words, bytes_back}
use Rattle.twin.specs.Step.{Chain, chain_with, hop, hops_from}
use Rattle.twin.proofs.Span.{none_of_span, next_of_span}
use Rattle.twin.proofs.Stepping.{hops_length, hop_long}
use Rattle.c_twin.specs.TwinBytes.{chain_in, chain_on, bytes_number, BytesDone, StepBytesDone, HoppedBytes, InPlace}
use Rattle.c_twin.proofs.Bytes.{chain_bytes}

-- ---- devices stepped

module _ (line blank : List ℕ) (even : length line % 2 ≡ 0) (short : length line ≤ 280) (size : length blank ≡ 140) where
  is_line : line_in (length blank) line ≡ line_on line
  is_line = whole_line (length blank) line (omega (arith, ap length (even_line line even), length_words line))

  module _ (words : List ℕ) (count : ℕ) (taken : LineTaken line blank words count) where
    pub line_count : count ≡ length line / 2
    line_count = taken.counts ∙ ap length (is_line ∙ even_line line even) ∙ length_words line

    line_words : take count words ≡ line_on line
    line_words = line_front line blank words count taken ∙ is_line

    module _ (n from to : ℕ) (memory out : List ℕ) (chain : chain_in n (length memory) ≡ true) (room : length line ≤ length out)
        (held : length words ≡ length blank) where
      pub hopped : (memory' line' out' : List ℕ) → Bytes memory' → length memory' ≡ length memory
          → InPlace (hops_from n from to (chain_with (words_of memory) (take count words))) memory' line'
          → out' ≡ sets out 0 (as_bytes (take (length out / 2) (take count (line' ++ drop count words))))
          → HoppedBytes (hops_from n from to (chain_on memory line)) memory' out out'
      hopped memory' line' out' small kept done stored =
          let end : hops_from n from to (chain_with (words_of memory) (take count words)) ≡ hops_from n from to (chain_on memory line) =
          ap (λ (l : List ℕ). hops_from n from to (chain_with (words_of memory) l)) line_words in
          let after = hops_from n from to (chain_on memory line) in
          let is : line' ≡ after.line = done.leaves ∙ ap (λ (s : Chain). s.line) end in
          let long : length after.line ≡ length (take count words) = hops_length n from to (chain_on memory line) ∙ sym (ap length line_words) in
          let counted : length (take count words) ≡ count = length-take-le count words (omega (arith, line_count)) in
          record {
            remembers =
                sym (bytes_back memory' (256 * n) (omega (arith, chain_bytes n (length memory) chain)) small)
                ∙ ap as_bytes done.remembers ∙ ap (λ (s : Chain). as_bytes s.memory) end;
            leaves =
                stored
                ∙ ap (λ (l : List ℕ). sets out 0 (as_bytes (take (length out / 2) l)))
                (ap (λ (l : List ℕ). take count (l ++ drop count words)) is ∙ take_at after.line (drop count words) count (long ∙ counted))
                ∙ packed_front after.line out (omega (arith, long, counted, line_count));
          }

-- ---- a line longer than any command

either_way : (t : Bool) (s : Chain) → cond t s s ≡ s
either_way true s = refl
either_way false s = refl

hops_long : (n from to : ℕ) (s : Chain) → 140 < length s.line → hops_from n from to s ≡ s
unfolding hops_from
hops_long n from zero s long = refl
hops_long n from (suc k) s long =
    ap (λ (x : Chain). cond (leb from k) x s) (ap (hop n k) (hops_long n from k s long) ∙ hop_long n k s long) ∙ either_way (leb from k) s

module _ (n from to : ℕ) (memory line out : List ℕ) (even : length line % 2 ≡ 0) (long : 280 < length line) where
  as_it_came : hops_from n from to (chain_on memory line) ≡ chain_with (words_of memory) (words_of line)
  as_it_came =
      hops_long n from to (chain_on memory line) (omega (arith, ap length (even_line line even), length_words line))
      ∙ ap (chain_with (words_of memory)) (even_line line even)

  pub passed_on : (out' : List ℕ) → chain_in n (length memory) ≡ true → length line ≤ length out → Bytes memory → Bytes line → out' ≡ sets out 0 line
      → HoppedBytes (hops_from n from to (chain_on memory line)) memory out out'
  passed_on out' chain room memory-bytes line-bytes stored = record {
    remembers = sym (ap (λ (s : Chain). as_bytes s.memory) as_it_came ∙ bytes_back memory (256 * n) (omega (arith, chain_bytes n (length memory) chain)) memory-bytes);
    leaves =
        stored ∙ sets_front line out room
        ∙ sym (ap (λ (s : Chain). at_front (as_bytes s.line) out) as_it_came
        ∙ ap (λ (l : List ℕ). at_front l out) (bytes_back line (length line / 2) (omega arith) line-bytes));
  }

-- ---- which number

module _ (fits : Bool) (after : Chain) (memory line out : List ℕ) where
  pub turned_away : (number : ℕ) → bytes_number fits line out ≡ number → 1 ≤ number → BytesDone fits after memory memory line out out number
  turned_away number is row =
      let away : 1 ≤ bytes_number fits line out = omega arith in
      record {
        says = sym is;
        remembers = sym (left_as_it_was (as_bytes after.memory) memory _ away);
        leaves = sym (left_as_it_was (at_front (as_bytes after.line) out) out _ away);
      }

  pub went_on : (memory' out' : List ℕ) → bytes_number fits line out ≡ 0 → HoppedBytes after memory' out out' → BytesDone fits after memory memory' line out out' 0
  went_on memory' out' is done =
      record {
        says = sym is;
        remembers = done.remembers ∙ sym (left_written (as_bytes after.memory) memory _ is);
        leaves = done.leaves ∙ sym (left_written (at_front (as_bytes after.line) out) out _ is);
      }

-- ---- one device: a span of one

and_false : (t : Bool) → (t && false) ≡ false
and_false true = refl
and_false false = refl

-- beyond the chain it is TWIN
pub no_device : (n k : ℕ) (memory line out : List ℕ) → n ≤ k → StepBytesDone n k memory memory line out out 15
unfolding bytes_number
no_device n k memory line out beyond =
    let fits = chain_in n (length memory) && ltb k n in
    let out_of_it : fits ≡ false = ap (λ (t : Bool). chain_in n (length memory) && t) (le-ltb k n beyond) ∙ and_false (chain_in n (length memory)) in
    turned_away fits (hop n k (chain_on memory line)) memory line out 15 (ap (λ (t : Bool). bytes_number t line out) out_of_it) (omega arith)

and_true : (t : Bool) → (t && true) ≡ t
and_true true = refl
and_true false = refl

pub as_step : (n k : ℕ) (memory memory_left line out out_after : List ℕ) (r : ℕ) → k < n
    → BytesDone (chain_in n (length memory)) (hops_from n k (k + 1) (chain_on memory line)) memory memory_left line out out_after r
    → StepBytesDone n k memory memory_left line out out_after r
as_step n k memory memory_left line out out_after r device done =
    let s = chain_on memory line in
    let one : hops_from n k (k + 1) s ≡ hop n k s = sym (next_of_span n s k k (omega arith)) ∙ ap (hop n k) (none_of_span n s k) in
    let fits : chain_in n (length memory) ≡ (chain_in n (length memory) && ltb k n) =
    sym (ap (λ (t : Bool). chain_in n (length memory) && t) (lt-ltb k n device) ∙ and_true (chain_in n (length memory))) in
    subst (λ (x : Chain). BytesDone (chain_in n (length memory) && ltb k n) x memory memory_left line out out_after r) one
    (subst (λ (t : Bool). BytesDone t (hops_from n k (k + 1) s) memory memory_left line out out_after r) fits done)
