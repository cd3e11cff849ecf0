-- NO DEVICE SPEAKS FOR ANOTHER. Of two jobs with the same questions and masks in the same order, the same entries accepted and the same values of
-- one device, that device is in both certificates or in neither, and with the same letter: other devices' values can't alter it.
use mathlib.Core.Path.{◌≡◌, refl, ap}
use mathlib.Core.List.{List, Forall₂}
use Prim.Native.Nat.{ℕ, ◌<◌}
use lib.Bits.{bit_and}
use lib.ListN.{get_or}
use Rattle.questions.specs.Question.{covers}
use Rattle.letters.specs.Letters.{Heard, begun, heard_from, standing_after}
use Rattle.letters.specs.Meaning.{Alike, AlikeIn}
use Rattle.letters.specs.declared.Standing.{Standing}
use Rattle.letters.proofs.Entry.{heard}
use Rattle.letters.proofs.AlikeEntries.{SameFor, entry_alike}

module _ (a : ℕ) where
  -- the same value agrees in the bits of every mask
  alike_in : (mask : ℕ) {e e' : Heard} → Alike a e e' → AlikeIn mask a e e'
  alike_in mask alike = record {
    question = alike.question;
    mask = alike.mask;
    accepted = alike.accepted;
    own = λ reads covered. ap (λ (value : ℕ). bit_and value mask) (alike.own reads covered);
  }

  job_alike : a < 32 → (s s' : Standing) → SameFor a s s' → {es es' : List Heard} → Forall₂ (Alike a) es es' → SameFor a (heard_from s es) (heard_from s' es')
  unfolding heard_from
  job_alike h s s' same Forall₂.nil = same
  job_alike h s s' same (Forall₂.cons {a = e} {b = e'} alike rest) =
      job_alike h (heard s e) (heard s' e') (entry_alike a s s' same e e' (alike_in s.mask alike) h) rest

  pub own_view : a < 32 → (es es' : List Heard) → Forall₂ (Alike a) es es'
      → (covers (standing_after es).write a ≡ covers (standing_after es').write a)
      × (get_or (standing_after es).letters a 0 ≡ get_or (standing_after es').letters a 0)
  own_view h es es' alike =
      let same = job_alike h begun begun record { write = refl; letter = refl } alike in
      (ap (λ (s : Standing). covers s.write a) same.write, same.letter)
