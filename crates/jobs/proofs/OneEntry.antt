-- One entry's bytes read, and what is read written again: an entry is good exactly where it is the encoding of one that keeps the rules.
use mathlib.Core.Path.{◌≡◌, refl, sym, ap, ap₂, subst, ◌∙◌}
use mathlib.Core.Bool.{Bool, true, false, cond, ◌&&◌}
use mathlib.Core.Logic.{⊎_elim}
use mathlib.Core.List.{List, [], ◌∷◌, ◌++◌, append_assoc}
use Prim.Native.Nat.{ℕ, zero, suc, ◌+◌, ◌*◌, ◌/◌, ◌%◌, ◌<◌, ◌≤◌}
use native.Mathlib.Nat.{add-zero}
use native.Mathlib.Omega.{arith}
use lib.Dec.{leb}
use lib.ListN.{length, get_or, take, drop, length-append, length-take, length-drop, take-append-drop, get_or-eq_default}
use lib.Seq.{take_at, drop_at, drop-drop, get_or-take, get_or-drop, get_or-append-add}
use borrow.Author.Tests.{le-leb}
use Rattle.ground.proofs.Test.{below_or_not}
use Rattle.ground.proofs.Lists.{tabulated_front}
use Rattle.remainder.specs.Turned.{Bytes}
use Rattle.packing.specs.Words.{low_high, words_of, as_bytes}
use Rattle.packing.proofs.Back.{length_bytes, words_back, bytes_back, words_wide}
use Rattle.masks.specs.Masks.{is_write, all_bits, mask_of, good_mask}
use Rattle.masks.proofs.MaskOf.{said_mask, implied_mask}
use Rattle.jobs.specs.declared.Header.{Header}
use Rattle.jobs.specs.Format.{Entry, since, field_bytes, field_size, mask_place, behind_mask, entry_bytes}
use Rattle.jobs.specs.Rules.{keeps_rules}
use Rattle.jobs.specs.Encoded.{Fits, Keeps}
use Rattle.jobs.specs.Check.{words_in, size_in, mask_in, entry_in, good_entry}
use Rattle.jobs.proofs.Sizes.{behind_mask_lem, field_size_is, fields_length}
use Rattle.jobs.proofs.GoodEntry.{words_number, good}
use Rattle.jobs.proofs.Keeps.{keeps_passes, passes_keeps, mask_passes}

-- ---- the bytes of an entry that fits

pub record Fields (version : ℕ) (e : Entry) : Type 0 where
  pub kind : e.kind < 256
  pub reg : e.reg < 256
  pub value : e.value < 65536
  pub mask : Bytes (since 2 version (low_high e.mask))
  pub device : e.device < 256
  pub seed : e.seed < 256
  pub words : (i : ℕ) → get_or e.words i 0 < 65536

words_wide_again : (words : List ℕ) → Bytes (as_bytes words) → (i : ℕ) → get_or words i 0 < 65536
unfolding as_bytes
words_wide_again [] small i = omega arith
words_wide_again (w ∷ words) small zero = let high : w / 256 < 256 = small 1 in omega arith
words_wide_again (w ∷ words) small (suc i) = words_wide_again words (λ k. small (suc (suc k))) i

words_small : (words : List ℕ) → ((i : ℕ) → get_or words i 0 < 65536) → Bytes (as_bytes words)
unfolding as_bytes
words_small [] wide i = omega arith
words_small (w ∷ words) wide zero = omega arith
words_small (w ∷ words) wide (suc zero) = let h : w < 65536 = wide 0 in omega arith
words_small (w ∷ words) wide (suc (suc i)) = words_small words (λ k. wide (suc k)) i

module _ (version : ℕ) (e : Entry) where
  -- device, seed and number of words
  abbrev last : List ℕ
  last = e.device ∷ e.seed ∷ low_high (length e.words)

  -- the mask, if the version has one
  abbrev held : Bool → List ℕ
  held has = cond has (low_high e.mask) []

  -- what stands behind the value
  abbrev behind : Bool → List ℕ
  behind has = (held has ++ last) ++ as_bytes e.words

  held_bytes : (has : Bool) → Bytes (behind has) → Bytes (held has)
  held_bytes true small zero = small 0
  held_bytes true small (suc zero) = small 1
  held_bytes true small (suc (suc i)) = omega arith
  held_bytes false small i = omega arith

  last_bytes : (has : Bool) → Bytes (behind has) → Bytes (last ++ as_bytes e.words)
  last_bytes true small i = small (suc (suc i))
  last_bytes false small i = small i

  behind_bytes : (has : Bool) → Bytes (held has) → Bytes (last ++ as_bytes e.words) → Bytes (behind has)
  behind_bytes true mask small zero = mask 0
  behind_bytes true mask small (suc zero) = mask 1
  behind_bytes true mask small (suc (suc i)) = small i
  behind_bytes false mask small i = small i

  pub fields : Fits version e → Fields version e
  fields fits =
      let high : e.value / 256 < 256 = fits 3 in
      let after : Bytes (behind (leb 2 version)) = λ i. fits (suc (suc (suc (suc i)))) in
      let small = last_bytes (leb 2 version) after in
      record {
        kind = fits 0;
        reg = fits 1;
        value = omega arith;
        mask = held_bytes (leb 2 version) after;
        device = small 0;
        seed = small 1;
        words = words_wide_again e.words (λ i. small (suc (suc (suc (suc i)))));
      }

  module _ (f : Fields version e) (few : length e.words < 65536) where
    last_small : Bytes (last ++ as_bytes e.words)
    last_small zero = f.device
    last_small (suc zero) = f.seed
    last_small (suc (suc zero)) = omega arith
    last_small (suc (suc (suc zero))) = omega arith
    last_small (suc (suc (suc (suc i)))) = words_small e.words f.words i

    pub fits_by : Fits version e
    fits_by zero = f.kind
    fits_by (suc zero) = f.reg
    fits_by (suc (suc zero)) = omega arith
    fits_by (suc (suc (suc zero))) = omega (arith, f.value)
    fits_by (suc (suc (suc (suc i)))) = behind_bytes (leb 2 version) f.mask last_small i

-- ---- an entry's bytes, and others behind them

module _ (version : ℕ) (e : Entry) (rest : List ℕ) where
  abbrev bytes : List ℕ
  bytes = entry_bytes version e ++ rest

  abbrev fields_of : List ℕ
  fields_of = field_bytes version e.kind e.reg e.value e.mask e.device e.seed (length e.words)

  fields_size : length fields_of ≡ field_size version
  fields_size = fields_length version e.kind e.reg e.value e.mask e.device e.seed (length e.words)

  abbrev front : List ℕ
  front = e.kind ∷ e.reg ∷ (low_high e.value ++ since 2 version (low_high e.mask))

  abbrev after : List ℕ
  after = last version e ++ (as_bytes e.words ++ rest)

  -- what stands in front of the device, and what stands from there on
  split : bytes ≡ front ++ after
  split =
      let mask = since 2 version (low_high e.mask) in
      ap (λ (l : List ℕ). e.kind ∷ e.reg ∷ (low_high e.value ++ l))
      (ap (λ (l : List ℕ). l ++ rest) (append_assoc mask (last version e) (as_bytes e.words))
      ∙ append_assoc mask (last version e ++ as_bytes e.words) rest)

  from_device : (i : ℕ) → get_or bytes (behind_mask version + i) 0 ≡ get_or after i 0
  from_device i =
      let place : behind_mask version ≡ length front = omega (arith, behind_mask_lem version e.mask) in
      ap₂ (λ (l : List ℕ) (k : ℕ). get_or l (k + i) 0) split place ∙ get_or-append-add front after i 0

  says_words : words_in version bytes ≡ length e.words
  says_words = omega (arith, from_device 2, from_device 3)

  pub entry_size : size_in version bytes ≡ length (entry_bytes version e)
  entry_size = omega (arith, says_words, length_bytes e.words, length-append fields_of (as_bytes e.words), fields_size)

  -- behind the entry stands the rest
  pub rest_back : drop (size_in version bytes) bytes ≡ rest
  rest_back = drop_at (entry_bytes version e) rest (size_in version bytes) (sym entry_size)

  -- behind its fields the words
  words_back_again : Fits version e → words_of (take (2 * words_in version bytes) (drop (field_size version) bytes)) ≡ e.words
  words_back_again fits =
      let many : 2 * words_in version bytes ≡ length (as_bytes e.words) = omega (arith, says_words, length_bytes e.words) in
      let there : drop (field_size version) bytes ≡ as_bytes e.words ++ rest =
      ap (drop (field_size version)) (append_assoc fields_of (as_bytes e.words) rest)
      ∙ drop_at fields_of (as_bytes e.words ++ rest) (field_size version) fields_size in
      ap (λ (l : List ℕ). words_of (take (2 * words_in version bytes) l)) there
      ∙ ap words_of (take_at (as_bytes e.words) rest (2 * words_in version bytes) (sym many))
      ∙ words_back e.words (fields version e fits).words

  -- and the mask in its place, or it goes without saying
  mask_back : good_mask version e.kind e.mask ≡ true → mask_in version bytes ≡ e.mask
  mask_back kept =
      ⊎_elim
      (λ (old : version < 2). implied_mask version e.kind e.mask _ old kept)
      (λ (new : 2 ≤ version).
      let all : since 2 version (low_high e.mask) ≡ low_high e.mask = ap (λ (has : Bool). cond has (low_high e.mask) []) (le-leb 2 version new) in
      ap (mask_in version) (split ∙ ap (λ (l : List ℕ). (e.kind ∷ e.reg ∷ (low_high e.value ++ l)) ++ after) all)
      ∙ said_mask version e.kind _ new ∙ (omega arith))
      (below_or_not version 2)

module _ (h : Header) (e : Entry) (fits : Fits h.version e) (rules : Keeps h e) (rest : List ℕ) where
  abbrev v : ℕ
  v = h.version

  abbrev all : List ℕ
  all = entry_bytes v e ++ rest

  -- the entry read is the entry written
  pub entry_back : entry_in v all ≡ e
  entry_back =
      let value : e.value % 256 + 256 * (e.value / 256) ≡ e.value = omega arith in
      let mask = mask_back v e rest (mask_passes h e rules) in
      let device : get_or all (behind_mask v) 0 ≡ e.device = ap (λ (k : ℕ). get_or all k 0) (sym (add-zero (behind_mask v))) ∙ from_device v e rest 0 in
      let seed = from_device v e rest 1 in
      let words = words_back_again v e rest fits in
      λ i. record { kind = e.kind; reg = e.reg; value = value i; mask = mask i; device = device i; seed = seed i; words = words i }

  -- an entry that keeps the rules is good
  pub entry_good : good_entry h all ≡ true
  unfolding good_entry
  entry_good =
      let size = length-append (entry_bytes v e) rest in
      ap₂ (λ (t u : Bool). t && u && keeps_rules h (entry_in v all)) (le-leb (field_size v) (length all) (omega (arith, entry_size v e rest, size))) (le-leb (size_in v all) (length all) (omega (arith, entry_size v e rest, size)))
      ∙ ap (keeps_rules h) entry_back ∙ keeps_passes h e rules

-- ---- what is read, written again

take_bytes : (n : ℕ) (l : List ℕ) → Bytes l → Bytes (take n l)
take_bytes n l small i =
    ⊎_elim
    (λ (inside : i < n). subst (λ (b : ℕ). b < 256) (sym (get_or-take n l i 0 inside)) (small i))
    (λ (beyond : n ≤ i). subst (λ (b : ℕ). b < 256) (sym (get_or-eq_default (take n l) 0 (omega (arith, length-take n l)))) (omega arith))
    (below_or_not i n)

pub drop_bytes : (n : ℕ) (l : List ℕ) → Bytes l → Bytes (drop n l)
drop_bytes n l small i = subst (λ (b : ℕ). b < 256) (sym (get_or-drop n l i 0)) (small (n + i))

-- two bytes joined, and taken apart
low_back : (low high : ℕ) → low < 256 → (low + 256 * high) % 256 ≡ low
low_back low high h = omega arith

high_back : (low high : ℕ) → low < 256 → (low + 256 * high) / 256 ≡ high
high_back low high h = omega arith

-- the mask read off the bytes behind the value, if the version has one
abbrev mask_read : (has : Bool) (kind : ℕ) → List ℕ → ℕ
mask_read has kind l = cond has (get_or l 0 0 + 256 * get_or l 1 0) (cond (is_write kind) all_bits 0)

mask_small : (has : Bool) (kind : ℕ) (l : List ℕ) → Bytes l → Bytes (cond has (low_high (mask_read has kind l)) [])
mask_small true kind l small zero = omega arith
mask_small true kind l small (suc zero) = let low : get_or l 0 0 < 256 = small 0 in let high : get_or l 1 0 < 256 = small 1 in omega arith
mask_small true kind l small (suc (suc i)) = omega arith
mask_small false kind l small i = omega arith

mask_again : (has : Bool) (kind : ℕ) (l : List ℕ) → Bytes l → length (cond has (low_high 0) []) ≤ length l
    → cond has (low_high (mask_read has kind l)) [] ++ drop (length (cond has (low_high 0) [])) l ≡ l
mask_again true kind l small long =
    ap₂ (λ (a b : ℕ). a ∷ b ∷ drop 2 l) (low_back (get_or l 0 0) (get_or l 1 0) (small 0)) (high_back (get_or l 0 0) (get_or l 1 0) (small 0))
    ∙ sym (tabulated_front 2 l long)
mask_again false kind l small long = refl

module _ (version : ℕ) (front : List ℕ) (small : Bytes front) (whole : size_in version front ≤ length front) where
  abbrev e : Entry
  e = entry_in version front

  abbrev words_bytes : ℕ
  words_bytes = 2 * words_in version front

  abbrev answer : List ℕ
  answer = take words_bytes (drop (field_size version) front)

  answer_length : length answer ≡ words_bytes
  answer_length = omega (arith, length-take words_bytes (drop (field_size version) front), length-drop (field_size version) front)

  answer_bytes : Bytes answer
  answer_bytes = take_bytes words_bytes (drop (field_size version) front) (drop_bytes (field_size version) front small)

  -- the bytes behind the value, and those behind the mask
  abbrev from_mask : List ℕ
  from_mask = drop mask_place front

  abbrev from_last : List ℕ
  from_last = drop (behind_mask version) front

  mask_there : e.mask ≡ mask_read (leb 2 version) (get_or front 0 0) from_mask
  unfolding mask_of
  mask_there = ap₂ (λ (low high : ℕ). cond (leb 2 version) (low + 256 * high) (cond (is_write (get_or front 0 0)) all_bits 0)) (sym (get_or-drop mask_place front 0 0)) (sym (get_or-drop mask_place front 1 0))

  entry_fits : Fits version e
  entry_fits =
      let high : get_or front 3 0 < 256 = small 3 in
      let low : get_or front 2 0 < 256 = small 2 in
      let few = small (behind_mask version + 2) in
      let many = small (behind_mask version + 3) in
      fits_by version e
      (record {
        kind = small 0;
        reg = small 1;
        value = omega arith;
        mask =
            subst (λ (m : ℕ). Bytes (since 2 version (low_high m))) (sym mask_there)
            (mask_small (leb 2 version) (get_or front 0 0) from_mask (drop_bytes mask_place front small));
        device = small (behind_mask version);
        seed = small (behind_mask version + 1);
        words = words_wide answer answer_bytes;
      })
      (omega (arith, words_number version front whole, few, many))

  -- from the mask on
  mask_laid : since 2 version (low_high e.mask) ++ from_last ≡ from_mask
  unfolding behind_mask
  mask_laid =
      ap₂ (λ (m : ℕ) (l : List ℕ). since 2 version (low_high m) ++ l) mask_there (sym (drop-drop (length (since 2 version (low_high 0))) mask_place front))
      ∙ mask_again (leb 2 version) (get_or front 0 0) from_mask (drop_bytes mask_place front small) (omega (arith, length-drop mask_place front, field_size_is version))

  -- from the device on
  last_laid : last version e ++ (as_bytes e.words ++ drop (size_in version front) front) ≡ from_last
  last_laid =
      let at : (i : ℕ) → get_or front (behind_mask version + i) 0 ≡ get_or from_last i 0 = λ i. sym (get_or-drop (behind_mask version) front i 0) in
      let number = words_number version front whole in
      let low : length e.words % 256 ≡ get_or from_last 2 0 = omega (arith, number, at 2, at 3, small (behind_mask version + 2)) in
      let high : length e.words / 256 ≡ get_or from_last 3 0 = omega (arith, number, at 2, at 3, small (behind_mask version + 2)) in
      let device : get_or front (behind_mask version) 0 ≡ get_or from_last 0 0 = ap (λ (k : ℕ). get_or front k 0) (sym (add-zero (behind_mask version))) ∙ at 0 in
      let words : as_bytes e.words ++ drop (size_in version front) front ≡ drop (field_size version) front =
      ap₂ (λ (x y : List ℕ). x ++ y) (bytes_back answer (words_in version front) answer_length answer_bytes) (sym (drop-drop words_bytes (field_size version) front)) ∙ take-append-drop words_bytes (drop (field_size version) front) in
      let behind : drop (field_size version) front ≡ drop 4 from_last = ap (λ (k : ℕ). drop k front) (field_size_is version) ∙ sym (drop-drop 4 (behind_mask version) front) in
      ap₂ (λ (a b : ℕ). a ∷ b ∷ (length e.words % 256) ∷ (length e.words / 256) ∷ (as_bytes e.words ++ drop (size_in version front) front)) device (at 1)
      ∙ ap₂ (λ (c d : ℕ). get_or from_last 0 0 ∷ get_or from_last 1 0 ∷ c ∷ d ∷ (as_bytes e.words ++ drop (size_in version front) front)) low high
      ∙ ap (λ (l : List ℕ). get_or from_last 0 0 ∷ get_or from_last 1 0 ∷ get_or from_last 2 0 ∷ get_or from_last 3 0 ∷ l) (words ∙ behind)
      ∙ sym (tabulated_front 4 from_last (omega (arith, length-drop (behind_mask version) front, field_size_is version)))

  entry_again : entry_bytes version e ++ drop (size_in version front) front ≡ front
  entry_again =
      let held = since 2 version (low_high e.mask) in
      let low : get_or front 2 0 < 256 = small 2 in
      split version e (drop (size_in version front) front)
      ∙ ap₂ (λ (a b : ℕ). get_or front 0 0 ∷ get_or front 1 0 ∷ a ∷ b ∷ (held ++ (last version e ++ (as_bytes e.words ++ drop (size_in version front) front)))) (low_back (get_or front 2 0) (get_or front 3 0) low) (high_back (get_or front 2 0) (get_or front 3 0) low)
      ∙ ap (λ (l : List ℕ). get_or front 0 0 ∷ get_or front 1 0 ∷ get_or front 2 0 ∷ get_or front 3 0 ∷ l) (ap (λ (l : List ℕ). held ++ l) last_laid ∙ mask_laid)
      ∙ sym (tabulated_front mask_place front (omega (arith, field_size_is version)))

-- A GOOD ENTRY IS AN ENCODING, of the entry that is read off it, with the rest behind
pub record Written (h : Header) (front : List ℕ) : Type 0 where
  pub fits : Fits h.version (entry_in h.version front)
  pub rules : Keeps h (entry_in h.version front)
  pub again : entry_bytes h.version (entry_in h.version front) ++ drop (size_in h.version front) front ≡ front

pub good_is_written : (h : Header) (front : List ℕ) → Bytes front → good_entry h front ≡ true → Written h front
good_is_written h front small ok =
    let v = h.version in
    let is = good h front ok in
    record { fits = entry_fits v front small is.whole; rules = passes_keeps h (entry_in v front) is.rules; again = entry_again v front small is.whole }
