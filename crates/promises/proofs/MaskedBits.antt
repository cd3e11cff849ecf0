-- Only the masked bits decide. A good write of a version 1 file has the mask FFFFh, and what it wrote and what is read have sixteen bits, so that
-- agreeing in the mask is being equal. Two jobs whose reads agree in the mask leave each device the same letter: the letters' own law.
use mathlib.Core.Path.{◌≡◌, refl, sym, ap, subst, ◌∙◌}
use mathlib.Core.Bool.{true, cond}
use mathlib.Core.Logic.{inl, inr, ⊎_elim}
use mathlib.Core.List.{List, [], ◌∷◌, ◌++◌, Forall₂}
use Prim.Native.Nat.{ℕ, ◌<◌}
use native.Mathlib.Omega.{arith}
use lib.Dec.{eqb}
use borrow.Author.Tests.{eqb-true}
use Rattle.ground.proofs.Test.{and_left, or_cases}
use Rattle.lines.specs.Line.{bytes_of}
use Rattle.lines.proofs.Line.{bytes_bytes}
use Rattle.questions.specs.Question.{write_all, write_device, read_all, good_question}
use Rattle.readings.specs.Reading.{values_taken}
use Rattle.judging.specs.Judge.{judge_of}
use Rattle.acceptance.proofs.Wire.{values_registers}
use Rattle.masks.specs.Masks.{is_write, all_bits}
use Rattle.jobs.specs.declared.Header.{Header}
use Rattle.jobs.specs.Format.{Entry, asked}
use Rattle.jobs.specs.Encoded.{Fits, Keeps, AllKeep, more}
use Rattle.jobs.proofs.OneEntry.{fields}
use Rattle.letters.specs.Letters.{Heard, is_good_write, value_for}
use Rattle.letters.specs.Meaning.{Last, good_write, decisive, own_value, shown_masked, shown_whole, Deserves}
use Rattle.letters.proofs.MaskedBits.{all_bits_are_whole, deserves_by, same_in_masked_bits}
use Rattle.listening.specs.Listening.{heard_of}
use Rattle.printing.specs.Text.{decimal, head_line}
use Rattle.promises.specs.Certificate.{FromReader, DeviceLine, lettered, none, CertificateText}
use Rattle.promises.specs.MaskedBits.{MaskedBits}
use Rattle.promises.proofs.OneText.{only_one}
use Rattle.promises.proofs.OwnLetter.{same_line, SameLetter, line_alike}

-- ---- what is heard comes from an entry of the file

module _ (h : Header) where
  record Source (x : Heard) (after : List Heard) : Type 0 where
    entry : Entry
    fits : Fits h.version entry
    rules : Keeps h entry
    is : x ≡ heard_of h entry
    later : List Entry
    keep : AllKeep h later
    rest : Forall₂ (FromReader h) later after

  source : (before : List Heard) (x : Heard) (after : List Heard) (es : List Entry) → Forall₂ (FromReader h) es (before ++ (x ∷ after))
      → AllKeep h es → Source x after
  source [] x after [] from keep = elim from [ ]
  source (b ∷ before) x after [] from keep = elim from [ ]
  source [] x after (e ∷ es) (Forall₂.cons from rest) (more _ _ fits rules keep) =
      record { entry = e; fits = fits; rules = rules; is = only_one h e x from; later = es; keep = keep; rest = rest }
  source (b ∷ before) x after (e ∷ es) (Forall₂.cons from rest) (more _ _ fits rules keep) = source before x after es rest keep

-- a value that a read hands out has sixteen bits
own_wide : (h : Header) (e : Entry) (a : ℕ) → own_value a (heard_of h e) < 65536
unfolding value_for
own_wide h e a =
    let q = asked h e in
    values_registers (bytes_of e.words) (bytes_bytes e.words) (values_taken (judge_of q e.words 32)) (cond (eqb q.kind read_all) a 0)

-- a good write of a version 1 file is expected to show all bits
whole_mask : (h : Header) (e : Entry) → h.version < 2 → Keeps h e → is_good_write (asked h e) ≡ true → e.mask ≡ all_bits
unfolding is_good_write
whole_mask h e old rules good =
    let writes = or_cases (eqb e.kind write_all) (eqb e.kind write_device) (and_left (is_write e.kind) (good_question (asked h e)) good) in
    rules.whole
    (⊎_elim (λ is. inl (eqb-true e.kind write_all is)) (λ is. inr (eqb-true e.kind write_device is)) writes) old

-- ---- version 1, by its entries

-- a device that deserves the same by two meanings of 'shown' has the same line by both
said_by : (Shown Shown' : (write : Heard) → (value : ℕ) → Type 0) (xs : List Heard) (a : ℕ)
    → ((v : ℕ) → Deserves Shown xs a v → Deserves Shown' xs a v) → ((v : ℕ) → Deserves Shown' xs a v → Deserves Shown xs a v)
    → (line : List ℕ) → DeviceLine Shown xs a line → DeviceLine Shown' xs a line
said_by Shown Shown' xs a to back _ (lettered v due) = lettered v (to v due)
said_by Shown Shown' xs a to back _ (none never) = none (λ v due. never v (back v due))

module _ (h : Header) (es : List Entry) (text : List ℕ) (old : h.version < 2) (keep : AllKeep h es) (c : CertificateText h es text) where
  abbrev xs : List Heard
  xs = c.heard

  same_shown : (a : ℕ) (w : Last good_write xs) (r : Last (decisive w.entry.question a) w.after)
      → (shown_masked w.entry (own_value a r.entry) → shown_whole w.entry (own_value a r.entry))
      × (shown_whole w.entry (own_value a r.entry) → shown_masked w.entry (own_value a r.entry))
  same_shown a w r =
      let write = source h w.before w.entry w.after es (subst (Forall₂ (FromReader h) es) w.whole c.from_reader) keep in
      let read = source h r.before r.entry r.after write.later (subst (Forall₂ (FromReader h) write.later) r.whole write.rest) write.keep in
      let good = ap good_write (sym write.is) ∙ w.passes in
      let mask : w.entry.mask ≡ all_bits = ap (λ (x : Heard). x.mask) write.is ∙ whole_mask h write.entry old write.rules good in
      let wide : w.entry.question.value < 65536 =
      subst (λ (x : Heard). x.question.value < 65536) (sym write.is) (fields h.version write.entry write.fits).value in
      let own : own_value a r.entry < 65536 = subst (λ (x : Heard). own_value a x < 65536) (sym read.is) (own_wide h read.entry a) in
      all_bits_are_whole w.entry (own_value a r.entry) mask own wide

  -- a line by one of the two is a line by the other
  module _ (a : ℕ) where
    to_whole : (v : ℕ) → Deserves shown_masked xs a v → Deserves shown_whole xs a v
    to_whole v = deserves_by shown_masked shown_whole xs a v (same_shown a)

    to_masked : (v : ℕ) → Deserves shown_whole xs a v → Deserves shown_masked xs a v
    to_masked v = deserves_by shown_whole shown_masked xs a v (λ w r. ((same_shown a w r).1, (same_shown a w r).0))

    line_by_all_bits : DeviceLine shown_whole xs a (c.line a)
    line_by_all_bits = said_by shown_masked shown_whole xs a to_whole to_masked (c.line a) (c.deserved a)

    no_other_line : (line : List ℕ) → DeviceLine shown_whole xs a line → line ≡ c.line a
    no_other_line line is =
        same_line a xs xs (λ v due. due) (λ v due. due) line (c.line a) (said_by shown_whole shown_masked xs a to_masked to_whole line is) (c.deserved a)

pub masked_bits : MaskedBits
unfolding head_line decimal
masked_bits = record {
  version_1 = λ h es file text old encoded c a.
      let below : h.version < 2 = omega (arith, old) in
      (line_by_all_bits h es text below encoded.entries c a, no_other_line h es text below encoded.entries c a);
  first_line = λ n. refl;
  same_letter = λ h h' es es' text text' c c' a w before after is alike.
      line_alike a c.heard c'.heard
      (λ below. subst (SameLetter a c.heard) (sym is) (same_in_masked_bits a below c.heard w before after alike))
      (c.line a) (c'.line a) (c.deserved a) (c'.deserved a);
  all_sent = λ h kind reg value mask mask' device seed words. refl;
}
