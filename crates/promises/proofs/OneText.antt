-- A certificate's text is settled by its header and entries: what the reader says of an entry is one thing, and a device deserves one
-- letter at most.
use mathlib.Core.Path.{◌≡◌, refl, sym, ap, ap₂, subst, ◌∙◌}
use mathlib.Core.List.{List, [], ◌∷◌, map, Forall₂}
use Prim.Native.Nat.{ℕ}
use lib.ListN.{take, replicate}
use Rattle.lines.specs.Write.{at_front}
use Rattle.readings.specs.Reading.{values_taken}
use Rattle.judging.specs.Judge.{judge_of}
use Rattle.reader.specs.Read.{values_on, ReadDone}
use Rattle.jobs.specs.declared.Header.{Header}
use Rattle.jobs.specs.Format.{Entry, asked}
use Rattle.letters.specs.Letters.{Heard}
use Rattle.letters.specs.Meaning.{shown_masked, Deserves}
use Rattle.listening.specs.Listening.{heard_of}
use Rattle.listening.proofs.OneHeard.{values_read}
use Rattle.promises.specs.Certificate.{FromReader, lines_of, numbers_of, CertificateText}
use Rattle.promises.proofs.OwnLetter.{same_line}

-- ---- the entries

module _ (h : Header) where
  -- what the reader says of an entry,
  from_reader : (e : Entry) → FromReader h e (heard_of h e)
  from_reader e = record {
    question = refl;
    mask = refl;
    answer = λ before after r size done.
        let q = asked h e in
        let line = e.words in
        let says : r ≡ judge_of q line 32 = done.says ∙ ap (judge_of q line) size in
        let m = values_taken (judge_of q line 32) in
        let leaves : after ≡ at_front (values_on line m) before =
        done.leaves ∙ ap (λ (n : ℕ). at_front (values_on line (values_taken (judge_of q line n))) before) size in
        (sym says, sym (ap₂ take (ap values_taken says) leaves ∙ values_read q line before));
  }

  -- and no other
  pub only_one : (e : Entry) (x : Heard) → FromReader h e x → x ≡ heard_of h e
  only_one e x from =
      let q = asked h e in
      let line = e.words in
      let m = values_taken (judge_of q line 32) in
      let room : List ℕ = replicate 32 0 in
      let done : ReadDone q line room (at_front (values_on line m) room) (judge_of q line 32) = record { says = refl; leaves = refl } in
      let answer = from.answer room (at_front (values_on line m) room) (judge_of q line 32) refl done in
      let values = answer.1 ∙ values_read q line room in
      λ i. record { question = from.question i; mask = from.mask i; reading = answer.0 i; values = values i }

  pub all_from_reader : (es : List Entry) → Forall₂ (FromReader h) es (map (heard_of h) es)
  all_from_reader [] = Forall₂.nil
  all_from_reader (e ∷ es) = Forall₂.cons (from_reader e) (all_from_reader es)

  all_only_one : (es : List Entry) (xs : List Heard) → Forall₂ (FromReader h) es xs → xs ≡ map (heard_of h) es
  all_only_one [] [] Forall₂.nil = refl
  all_only_one [] (x ∷ xs) from = elim from [ ]
  all_only_one (e ∷ es) [] from = elim from [ ]
  all_only_one (e ∷ es) (x ∷ xs) (Forall₂.cons from rest) =
      ap₂ (λ (y : Heard) (ys : List Heard). y ∷ ys) (only_one e x from) (all_only_one es xs rest)

-- ---- the text

pub one_text : (h : Header) (es : List Entry) (text text' : List ℕ) → CertificateText h es text → CertificateText h es text' → text ≡ text'
one_text h es text text' c c' =
    let heard : c.heard ≡ c'.heard = all_only_one h es c.heard c.from_reader ∙ sym (all_only_one h es c'.heard c'.from_reader) in
    let lines : (a : ℕ) → c.line a ≡ c'.line a = λ a.
    same_line a c.heard c'.heard (λ v. subst (λ (xs : List Heard). Deserves shown_masked xs a v) heard) (λ v. subst (λ (xs : List Heard). Deserves shown_masked xs a v) (sym heard))
    (c.line a) (c'.line a) (c.deserved a) (c'.deserved a) in
    c.whole ∙ ap₂ (λ (xs : List Heard) (line : ℕ → List ℕ). lines_of h.version h.n (numbers_of xs) line) heard (λ i a. lines a i)
    ∙ sym c'.whole
