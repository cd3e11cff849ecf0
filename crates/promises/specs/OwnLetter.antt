-- NO DEVICE SPEAKS FOR ANOTHER (document 01, "Job file and certificate"). A device's letter depends on the header, on the entries' questions and
-- masks and their order, on which entries were accepted, and on that device's own values: with those the same, another device's values in accepted
-- reads can't alter the line that is printed for it. And each device that a good write covers is one of 0 to 31, so that no D line is of another.
use Rattle.std.specs.Prelude.{◌≡◌, true, ℕ, ◌≤◌, ◌<◌}
use mathlib.Core.List.{List, [], Forall₂}
use Rattle.questions.specs.Question.{covers}
use Rattle.questions.specs.declared.question.Question.{Question}
use Rattle.jobs.specs.declared.Header.{Header}
use Rattle.jobs.specs.Format.{Entry}
use Rattle.letters.specs.Letters.{is_good_write}
use Rattle.letters.specs.Meaning.{Alike}
use Rattle.promises.specs.Certificate.{CertificateText}

pub record OwnLetter : Type 0 where
  -- two jobs whose entries have the same questions and masks in the same order, the same acceptances, and the same values of device a in accepted reads
  -- that cover it: the line of device a is the same in both certificates, or in neither is there one, whatever other devices answered
  pub own : (h h' : Header) (es es' : List Entry) (text text' : List ℕ) (c : CertificateText h es text) (c' : CertificateText h' es' text')
      → (a : ℕ) → Forall₂ (Alike a) c.heard c'.heard → c.line a ≡ c'.line a
  -- a device that a good write covers is below 32,
  pub covered_below : (q : Question) → is_good_write q ≡ true → (a : ℕ) → covers q a ≡ true → a < 32
  -- so that no other has a line
  pub lettered_below : (h : Header) (es : List Entry) (text : List ℕ) (c : CertificateText h es text) (a : ℕ) → 32 ≤ a → c.line a ≡ []
