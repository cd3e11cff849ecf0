-- WHAT A JOB FILE IS. A file of bytes is good exactly when it is the encoding of a header and entries that keep the rules, and then of only
-- one such header and list of entries: those that the check reads off it.
use mathlib.Core.Path.{◌≡◌, refl, sym, ap, ap₂, subst, ◌∙◌}
use mathlib.Core.Bool.{Bool, true, ◌&&◌}
use mathlib.Core.List.{List, [], ◌∷◌, ◌++◌}
use Prim.Native.Nat.{ℕ, ◌+◌, ◌*◌, ◌/◌, ◌%◌, ◌<◌, ◌≤◌}
use native.Mathlib.Omega.{arith}
use lib.Dec.{leb, eqb}
use lib.ListN.{length, get_or, drop}
use borrow.Author.Tests.{le-leb, eqb-true}
use Rattle.ground.proofs.Test.{and_left, and_right}
use Rattle.ground.proofs.Lists.{tabulated_front}
use Rattle.remainder.specs.Turned.{Bytes}
use Rattle.jobs.specs.declared.Header.{Header}
use Rattle.jobs.specs.Format.{Entry, head_size, entry_bytes, entries_bytes, file_bytes}
use Rattle.jobs.specs.Rules.{good_header}
use Rattle.jobs.specs.Check.{size_in, entry_in, good_entry, good_entries, entries_in, walk_from, marked, header_in, good_file}
use Rattle.jobs.specs.Encoded.{AllKeep, none, more, Encodes}
use Rattle.jobs.proofs.Walk.{one_entry}
use Rattle.jobs.proofs.EachEntry.{each_entry}
use Rattle.jobs.proofs.Entries.{parts}
use Rattle.jobs.proofs.OneEntry.{entry_back, rest_back, entry_good, good_is_written, drop_bytes}

-- ---- an encoding is good, and what is read off it is what was written

module _ (h : Header) where
  abbrev v : ℕ
  v = h.version

  abbrev if_good : List ℕ → Bool → Bool
  if_good front later = good_entry h front && later

  entries_good : (es : List Entry) → AllKeep h es → good_entries h (entries_bytes v es) ≡ true
  unfolding entries_bytes walk_from
  entries_good [] none = refl
  entries_good (e ∷ es) (more _ _ fits rules rest) =
      let bytes = entry_bytes v e ++ entries_bytes v es in
      one_entry v true if_good bytes (omega arith)
      ∙ ap₂ (λ (t u : Bool). t && u) (entry_good h e fits rules (entries_bytes v es))
      (ap (good_entries h) (rest_back v e (entries_bytes v es)) ∙ entries_good es rest)

  entries_back : (es : List Entry) → AllKeep h es → entries_in v (entries_bytes v es) ≡ es
  unfolding entries_bytes walk_from
  entries_back [] none = refl
  entries_back (e ∷ es) (more _ _ fits rules rest) =
      let bytes = entry_bytes v e ++ entries_bytes v es in
      one_entry v [] (λ (front : List ℕ) (later : List Entry). entry_in v front ∷ later) bytes (omega arith)
      ∙ ap₂ (λ (x : Entry) (l : List Entry). x ∷ l) (entry_back h e fits rules (entries_bytes v es))
      (ap (entries_in v) (rest_back v e (entries_bytes v es)) ∙ entries_back es rest)

-- the version is written low byte first
version_back : (h : Header) → h.version % 256 + 256 * (h.version / 256) ≡ h.version
version_back h = omega arith

module _ (h : Header) (es : List Entry) (file : List ℕ) (written : Encodes h es file) where
  -- the header and the entries are those that the check reads off the file
  pub header_read : header_in file ≡ h
  header_read = ap header_in written.written ∙ ap (λ (v : ℕ). record { version = v; n = h.n; alive = h.alive }) (version_back h)

  pub entries_read : entries_in (header_in file).version (drop head_size file) ≡ es
  unfolding head_size
  entries_read =
      ap₂ (λ (x : Header) (f : List ℕ). entries_in x.version (drop head_size f)) header_read written.written ∙ entries_back h es written.entries

  -- AN ENCODING IS GOOD
  pub encoded_is_good : good_file file ≡ true
  unfolding good_file marked head_size
  encoded_is_good =
      let is = written.written in
      let bytes = file_bytes h es in
      let size : length bytes ≤ 65536 = subst (λ (f : List ℕ). length f ≤ 65536) is written.size in
      ap₂ (λ (x : Header) (f : List ℕ). leb (length f) 65536 && leb head_size (length f) && marked f && good_header x && good_entries x (drop head_size f)) header_read is
      ∙ ap₂ (λ (t u : Bool). t && u && marked bytes && good_header h && good_entries h (entries_bytes h.version es)) (le-leb (length bytes) 65536 size) (le-leb head_size (length bytes) (omega arith))
      ∙ ap₂ (λ (t u : Bool). t && u) written.header (entries_good h es written.entries)

-- AN ENCODING IS OF ONLY ONE HEADER AND LIST OF ENTRIES
pub record Same (h h' : Header) (es es' : List Entry) : Type 0 where
  pub header : h ≡ h'
  pub entries : es ≡ es'

pub encoded_once : (h h' : Header) (es es' : List Entry) (file : List ℕ) → Encodes h es file → Encodes h' es' file → Same h h' es es'
encoded_once h h' es es' file one other = record {
  header = sym (header_read h es file one) ∙ header_read h' es' file other;
  entries = sym (entries_read h es file one) ∙ entries_read h' es' file other;
}

-- ---- a good file is an encoding

-- good entries keep the rules, and written again are the bytes they were read off
pub record Again (h : Header) (bytes : List ℕ) : Type 0 where
  pub keep : AllKeep h (entries_in h.version bytes)
  pub again : entries_bytes h.version (entries_in h.version bytes) ≡ bytes

again_nothing : (h : Header) → Again h []
unfolding entries_bytes walk_from
again_nothing h = record { keep = none; again = refl }

entries_again : (h : Header) (bytes : List ℕ) → good_entries h bytes ≡ true → Bytes bytes → Again h bytes
unfolding entries_bytes
entries_again h =
    each_entry h (λ (bytes : List ℕ). Bytes bytes → Again h bytes) (λ small. again_nothing h)
    (λ front some ok rest small.
    let v = h.version in
    let first = good_is_written h front small ok in
    let later = rest (drop_bytes (size_in v front) front small) in
    let split = one_entry v [] (λ (f : List ℕ) (l : List Entry). entry_in v f ∷ l) front some in
    record {
      keep = subst (AllKeep h) (sym split) (more (entry_in v front) (entries_in v (drop (size_in v front) front)) first.fits first.rules later.keep);
      again = ap (entries_bytes v) split ∙ ap (λ (l : List ℕ). entry_bytes v (entry_in v front) ++ l) later.again ∙ first.again;
    })

-- A GOOD FILE IS AN ENCODING, of the header and the entries that the check reads off it
pub good_is_encoded : (file : List ℕ) → Bytes file → good_file file ≡ true
    → Encodes (header_in file) (entries_in (header_in file).version (drop head_size file)) file
unfolding marked head_size
good_is_encoded file small ok =
    let h = header_in file in
    let is = parts file ok in
    let mark = is.mark in
    let rest = entries_again h (drop head_size file) is.entries (drop_bytes head_size file small) in
    let low : get_or file 3 0 < 256 = small 3 in
    let b0 = eqb-true (get_or file 0 0) 0x42 (and_left _ _ (and_left _ _ mark)) in
    let b1 = eqb-true (get_or file 1 0) 0x4D (and_right (eqb (get_or file 0 0) 0x42) _ (and_left _ _ mark)) in
    let b2 = eqb-true (get_or file 2 0) 0x43 (and_right (eqb (get_or file 0 0) 0x42 && eqb (get_or file 1 0) 0x4D) _ mark) in
    let b3 : get_or file 3 0 ≡ h.version % 256 = omega arith in
    let b4 : get_or file 4 0 ≡ h.version / 256 = omega arith in
    let made : ℕ → ℕ → ℕ → ℕ → ℕ → List ℕ → List ℕ = λ a b c d e l. a ∷ b ∷ c ∷ d ∷ e ∷ h.n ∷ h.alive ∷ l in
    record {
      written =
          tabulated_front head_size file is.long
          ∙ ap₂ (λ (a b : ℕ). made a b (get_or file 2 0) (get_or file 3 0) (get_or file 4 0) (drop head_size file)) b0 b1
          ∙ ap₂ (λ (a b : ℕ). made 0x42 0x4D a b (get_or file 4 0) (drop head_size file)) b2 b3
          ∙ ap₂ (λ (a : ℕ) (l : List ℕ). made 0x42 0x4D 0x43 (h.version % 256) a l) b4 (sym rest.again);
      header = is.header;
      entries = rest.keep;
      size = is.size;
    }
