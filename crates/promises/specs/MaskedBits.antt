-- ONLY THE MASKED BITS DECIDE (document 02, M-100). A write's mask says which of its bits it is expected to show; the others may read as they like.
-- Claimed of the text of every job file, and so of every certificate:
-- the certificate of a version 1 file is the one that comparing all sixteen bits gives; two reads that agree in the bits of the write's mask give the
-- same letter; and the mask is sent to nobody: command, echo and the reader's answer are those of the whole value.
use Rattle.std.specs.Prelude.{◌≡◌, ℕ}
use mathlib.Core.List.{List, [], ◌∷◌, ◌++◌, Forall₂}
use Rattle.jobs.specs.declared.Header.{Header}
use Rattle.jobs.specs.Format.{Entry, asked}
use Rattle.jobs.specs.Encoded.{Encodes}
use Rattle.letters.specs.Letters.{Heard}
use Rattle.letters.specs.Meaning.{Last, good_write, shown_whole, AlikeIn}
use Rattle.printing.specs.Text.{decimal, head_line}
use Rattle.promises.specs.Certificate.{DeviceLine, CertificateText}

pub record MaskedBits : Type 0 where
  -- version 1: each device's line is the one, and the only one, that it has where all sixteen bits are compared
  pub version_1 : (h : Header) (es : List Entry) (file text : List ℕ) → h.version ≡ 1 → Encodes h es file → (c : CertificateText h es text)
      → (a : ℕ) → DeviceLine shown_whole c.heard a (c.line a) × ((line : List ℕ) → DeviceLine shown_whole c.heard a line → line ≡ c.line a)
  -- and its first line is `BMC 1 n`, as it was
  pub first_line : (n : ℕ) → head_line 1 n ≡ 0x42 ∷ 0x4D ∷ 0x43 ∷ 0x20 ∷ 0x31 ∷ 0x20 ∷ (decimal n ++ (0x0A ∷ []))
  -- two jobs with the same last good write, whatever came before it, whose later entries ask the same, are accepted both or neither, and in accepted
  -- reads that cover device a show values of its own that agree in the bits of that write's mask: device a's line is the same in both certificates
  pub same_letter : (h h' : Header) (es es' : List Entry) (text text' : List ℕ) (c : CertificateText h es text) (c' : CertificateText h' es' text')
      → (a : ℕ) (w : Last good_write c.heard) (before after : List Heard) → c'.heard ≡ before ++ (w.entry ∷ after)
      → Forall₂ (AlikeIn w.entry.mask a) w.after after → c.line a ≡ c'.line a
  -- bits outside the mask are sent and echoed as the others are: what is asked does not depend on it
  pub all_sent : (h : Header) (kind reg value mask mask' device seed : ℕ) (words : List ℕ)
      → asked h (record { kind = kind; reg = reg; value = value; mask = mask; device = device; seed = seed; words = words })
      ≡ asked h (record { kind = kind; reg = reg; value = value; mask = mask'; device = device; seed = seed; words = words })
