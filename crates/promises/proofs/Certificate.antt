-- The printed certificate: the text that the definitions give a job file is the one described, from the first line on; so what `certify` writes
-- is that text, and wherever there is such a text with room it is written. A letter is the deserved one by the law of `letters`.
use mathlib.Core.Path.{◌≡◌, refl, sym, ap, ap₂, subst, ◌∙◌}
use mathlib.Core.Bool.{true, false≢true}
use mathlib.Core.List.{List, [], ◌++◌, map}
use Prim.Native.Nat.{ℕ, ◌/◌, ◌≤◌}
use native.Mathlib.Omega.{arith}
use lib.ListN.{length, get_or}
use Rattle.remainder.specs.Turned.{Bytes}
use Rattle.lines.specs.Write.{at_front}
use Rattle.lines.proofs.LeftBy.{left_written}
use Rattle.jobs.specs.declared.Header.{Header}
use Rattle.jobs.specs.Format.{Entry}
use Rattle.jobs.specs.Check.{good_file}
use Rattle.jobs.specs.Encoded.{Encodes}
use Rattle.jobs.proofs.GoodFile.{header_read, entries_read, encoded_is_good, good_is_encoded}
use Rattle.letters.specs.Letters.{standing_after}
use Rattle.letters.specs.Meaning.{None, good_write}
use Rattle.letters.proofs.Meaning.{deserved_is_given, no_write_no_letter}
use Rattle.printing.specs.Text.{head_line, device_line_if, entry_lines, certificate_text}
use Rattle.listening.specs.Listening.{heard_of}
use Rattle.certificate.specs.Certificate.{numbers_of, certificate_of, certified_of, CertificateDone, certified_number}
use Rattle.std.specs.Prelude.{Result, Ok, Err}
use Rattle.jobs.specs.declared.FileRefusal.{FileRefusal}
use Rattle.jobs.specs.declared.FileRefusal.TheVariants as refusal
use Rattle.certificate.proofs.Answered.{Answered, no_job, no_room, all, answered, written_out}
use Rattle.certificate.proofs.Longest.{fits_every_certificate}
use Rattle.bmc.specs.Exports.{packed_certified, CertificateBytesDone}
use Rattle.promises.specs.ByNumber.{packed_number}
use Rattle.promises.specs.Certificate.{CertificateText, TextFor, CertificateDue, PrintedCertificate}
use Rattle.promises.proofs.OwnLetter.{deserving_below, no_line}
use Rattle.promises.proofs.LinesInOrder.{lines_alike, standing_line, line_standing, line_deserved}
use Rattle.promises.proofs.OneText.{all_from_reader, one_text}

-- ---- a job file's text is the one described

text_of : (h : Header) (es : List Entry) (file : List ℕ) → Encodes h es file → CertificateText h es (certificate_of file)
unfolding certificate_of certificate_text
text_of h es file encoded =
    let xs = map (heard_of h) es in
    let s = standing_after xs in
    record {
      heard = xs;
      from_reader = all_from_reader h es;
      line = standing_line s;
      deserved = line_deserved xs;
      whole =
          ap₂ (λ (g : Header) (l : List Entry). certificate_text g.version g.n (numbers_of (map (heard_of g) l)) (standing_after (map (heard_of g) l)))
          (header_read h es file encoded) (entries_read h es file encoded)
          ∙ ap (λ (d : List ℕ). head_line h.version h.n ++ (entry_lines (numbers_of xs) ++ d))
          (lines_alike (λ (a : ℕ). device_line_if s.write a (get_or s.letters a 0)) (standing_line s) 32 (line_standing s));
    }

-- so a job file has this text, and no other
pub text_for : (h : Header) (es : List Entry) (file : List ℕ) → Encodes h es file → TextFor file (certificate_of file)
text_for h es file encoded = (h, es, encoded, text_of h es file encoded)

pub only_text : (file text : List ℕ) → TextFor file text → certificate_of file ≡ text
only_text file text (h, es, encoded, printed) = one_text h es (certificate_of file) text (text_of h es file encoded) printed

-- ---- `certify`

module _ (file before after : List ℕ) (r : Result ℕ FileRefusal) (done : CertificateDone file before after r) where
  abbrev Wrote : List ℕ → Type 0
  Wrote text = (r ≡ Ok (length text)) × (after ≡ at_front text before)

  wrote : good_file file ≡ true → length (certificate_of file) ≤ length before → Wrote (certificate_of file)
  wrote good room =
      let says = written_out file before good room in
      (done.says ∙ says, done.leaves ∙ left_written (at_front (certificate_of file) before) before _ (ap certified_number says))

  only_then : Bytes file → certified_number r ≡ 0
      → (text : List ℕ) × CertificateDue file before text × (r ≡ Ok (length text)) × (after ≡ at_front text before)
  only_then small accepted = by_answer (certified_of file before) (answered file before) (ap certified_number (sym done.says) ∙ accepted)
    where
      by_answer : (c : Result ℕ FileRefusal) → Answered file before c → certified_number c ≡ 0
          → (text : List ℕ) × CertificateDue file before text × (r ≡ Ok (length text)) × (after ≡ at_front text before)
      by_answer _ (no_job bad) e = absurd (omega arith)
      by_answer _ (no_room good over) e = absurd (omega arith)
      by_answer _ (all good room) e =
          let written = wrote good room in
          (certificate_of file, (text_for _ _ file (good_is_encoded file small good), omega (arith, room)), written.0, written.1)

  always_then : Unit {0} → (text : List ℕ) → CertificateDue file before text
      → (certified_number r ≡ 0) × (r ≡ Ok (length text)) × (after ≡ at_front text before)
  always_then sent text due =
      let is = due.0 in
      let same = only_text file text is in
      let written = subst Wrote same (wrote (encoded_is_good is.0 is.1 file is.2) (omega (arith, ap length same, due.1))) in
      (ap certified_number written.0, written.0, written.1)

-- ---- `bmc_certificate`: the answer of `certify`, packed

module _ (file before after : List ℕ) (r : ℕ) (done : CertificateBytesDone file before after r) where
  unpacked : CertificateDone file before after (certified_of file before)
  unpacked = record { says = refl; leaves = done.leaves }

  packed : (text : List ℕ) → certified_of file before ≡ Ok (length text) → (packed_number r ≡ 0) × (r / 256 ≡ length text)
  packed text says = let is = done.says ∙ ap packed_certified says in (omega (arith, is), omega (arith, is))

  bytes_only_then : Bytes file → packed_number r ≡ 0
      → (text : List ℕ) × CertificateDue file before text × (r / 256 ≡ length text) × (after ≡ at_front text before)
  bytes_only_then small accepted =
      let it = only_then file before after (certified_of file before) unpacked small (own_number (certified_of file before) done.says) in
      (it.0, it.1, (packed it.0 it.2).1, it.3)
    where
      own_number : (c : Result ℕ FileRefusal) → r ≡ packed_certified c → certified_number c ≡ 0
      own_number (Ok n) e = refl
      own_number (Err refusal.File) e = absurd (omega arith)
      own_number (Err refusal.Room) e = absurd (omega arith)

  bytes_always_then : Unit {0} → (text : List ℕ) → CertificateDue file before text
      → (packed_number r ≡ 0) × (r / 256 ≡ length text) × (after ≡ at_front text before)
  bytes_always_then sent text due =
      let it = always_then file before after (certified_of file before) unpacked tt text due in
      ((packed text it.1).0, (packed text it.1).1, it.2)

-- ---- no D line without a good write

no_write : (h : Header) (es : List Entry) (text : List ℕ) (c : CertificateText h es text) → None good_write c.heard → (a : ℕ) → c.line a ≡ []
no_write h es text c silent a =
    no_line a c.heard
    (λ v due.
    let given = deserved_is_given c.heard a v (deserving_below due) due in
    false≢true (sym (no_write_no_letter c.heard silent a) ∙ given.covered))
    (c.line a) (c.deserved a)

pub printed_certificate : PrintedCertificate
printed_certificate = record {
  certify = λ file before small.
      record { only_then = λ after r done. only_then file before after r done small; always_then = always_then file before };
  in_bytes = λ file before small.
      record { only_then = λ after r done. bytes_only_then file before after r done small; always_then = bytes_always_then file before };
  every_job = λ h es file encoded.
      (certificate_of file, text_of h es file encoded, fits_every_certificate file (encoded_is_good h es file encoded));
  one_text = one_text;
  no_write = no_write;
}
