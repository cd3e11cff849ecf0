-- DEMAND 2, THE CERTIFICATE (document 01, "Job file and certificate"; document 02, M-100), down to the text that a person signs (what `certify`
-- writes; that the program puts it out is tested and not proved). Claimed of every file of bytes, and of every answer that meets the contract of
-- `certify`, or of `bmc_certificate` for C:
-- a certificate is written exactly where the file is the encoding of a header and entries that keep the rules and the text has room. The text is
-- `BMC f n`, f the file's version; then `E i r` for each entry, i from 1, r the number that the reader gives it; then `D a v`, in address order, for
-- exactly the devices that deserve a letter: those that the last write entry whose question is good covers, with S where of the accepted reads of that
-- register that come after the write and cover the device the latest shows the value written, in its masked bits, O where it shows another, U where
-- there is no such read. Nothing else is printed, and without a good write there is no D line. What the masks leave as it was: MaskedBits.antt.
use Rattle.std.specs.Prelude.{◌≡◌, ℕ, ◌/◌, ◌≤◌, length, take, Result, Ok}
use mathlib.Core.List.{List, [], ◌++◌, map, Forall₂}
use Rattle.remainder.specs.Turned.{Bytes}
use Rattle.readings.specs.Reading.{number_of, values_taken}
use Rattle.readings.specs.declared.Refusal.{Refusal}
use Rattle.readings.specs.declared.Taken.{Taken}
use Rattle.reader.specs.Read.{ReadDone}
use Rattle.jobs.specs.declared.Header.{Header}
use Rattle.jobs.specs.Format.{Entry, asked}
use Rattle.jobs.specs.Encoded.{Encodes}
use Rattle.letters.specs.Letters.{Heard}
use Rattle.letters.specs.Meaning.{None, good_write, shown_masked, Deserves}
use Rattle.printing.specs.Text.{head_line, device_line, first_lines, entry_lines}
use Rattle.certificate.specs.Certificate.{CertificateDone, certified_number, most_text}
use Rattle.bmc.specs.Exports.{CertificateBytesDone}
use Rattle.promises.specs.ByNumber.{packed_number}
use Rattle.promises.specs.WhereDue.{WhereDue}

-- What is heard of an entry is what the reader says of it: for every call of `read` on the entry's question and words, with an output of 32
-- words, the reading is what the call answers, and the values are what it leaves at the front of the output.
pub record FromReader (h : Header) (e : Entry) (x : Heard) : Type 0 where
  pub question : x.question ≡ asked h e
  pub mask : x.mask ≡ e.mask
  pub answer : (before after : List ℕ) (r : Result Taken Refusal) → length before ≡ 32 → ReadDone (asked h e) e.words before after r
      → (x.reading ≡ r) × (x.values ≡ take (values_taken r) after)

-- device a's line, by what it is for a value to show what was written: `D a v` where it deserves the letter v, and none where it deserves no letter
pub data DeviceLine (Shown : (write : Heard) → (value : ℕ) → Type 0) (heard : List Heard) (a : ℕ) : (line : List ℕ) → Type 0 where
  lettered : (v : ℕ) → Deserves Shown heard a v → DeviceLine Shown heard a (device_line a v)
  none : ((v : ℕ) → Deserves Shown heard a v → ⊥) → DeviceLine Shown heard a []

-- the lines of a text, of a number for each entry and a line, or none, for each device: the first one, the E lines counted from 1, the D lines in
-- address order; no chain has more than 32 devices
abbrev pub lines_of : (version n : ℕ) (numbers : List ℕ) (line : (a : ℕ) → List ℕ) → List ℕ
lines_of version n numbers line = head_line version n ++ (entry_lines numbers ++ first_lines line 32)

-- the number that the reader gives each entry
abbrev pub numbers_of : List Heard → List ℕ
numbers_of heard = map (λ (x : Heard). number_of x.reading) heard

-- the certificate's text for a header and entries
pub record CertificateText (h : Header) (es : List Entry) (text : List ℕ) : Type 0 where
  -- the entries as the reader says, one by one,
  pub heard : List Heard
  pub from_reader : Forall₂ (FromReader h) es heard
  -- the devices' lines,
  pub line : (a : ℕ) → List ℕ
  pub deserved : (a : ℕ) → DeviceLine shown_masked heard a (line a)
  -- and these lines, and nothing else
  pub whole : text ≡ lines_of h.version h.n (numbers_of heard) line

-- the certificate's text for a file: the file is the encoding of a header and entries that keep the rules, and this is their text
abbrev pub TextFor : (file text : List ℕ) → Type 0
TextFor file text = (h : Header) × (es : List Entry) × Encodes h es file × CertificateText h es text

-- when a certificate is due: this is the file's text, and it has room
abbrev pub CertificateDue : (file before text : List ℕ) → Type 0
CertificateDue file before text = TextFor file text × (length text ≤ length before)

pub record PrintedCertificate : Type 0 where
  -- written where it is due: by `certify`, whose answer says how many bytes were written;
  pub certify : (file before : List ℕ) → Bytes file
      → WhereDue certified_number before (CertificateDone file before) Unit (CertificateDue file before)
      (λ text r. r ≡ Ok (length text)) (λ text. text)
  -- and by C's call, where bits 8 to 31 say so
  pub in_bytes : (file before : List ℕ) → Bytes file
      → WhereDue packed_number before (CertificateBytesDone file before) Unit (CertificateDue file before)
      (λ text r. r / 256 ≡ length text) (λ text. text)
  -- every job file has a text, 82,143 bytes hold it, and it has no other
  pub every_job : (h : Header) (es : List Entry) (file : List ℕ) → Encodes h es file
      → (text : List ℕ) × CertificateText h es text × (length text ≤ most_text)
  pub one_text : (h : Header) (es : List Entry) (text text' : List ℕ) → CertificateText h es text → CertificateText h es text' → text ≡ text'
  -- without a good write there is no D line
  pub no_write : (h : Header) (es : List Entry) (text : List ℕ) (c : CertificateText h es text) → None good_write c.heard → (a : ℕ) → c.line a ≡ []
