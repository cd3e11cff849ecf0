-- `hear` meets its contract: a good write starts anew, a reading with no values leaves all as it stands, and values decide.
use mathlib.Core.Path.{◌≡◌, refl, sym, ap, ◌∙◌}
use mathlib.Core.Bool.{false}
use mathlib.Core.List.{List}
use Prim.Native.Nat.{ℕ}
use Rattle.std.specs.Prelude.{Result, Ok}
use Rattle.questions.specs.declared.question.Question.{Question}
use Rattle.readings.specs.declared.Refusal.{Refusal}
use Rattle.readings.specs.declared.Taken.{Taken}
use Rattle.readings.specs.declared.Taken.TheVariants.{Counted, Written, Values}
use Rattle.letters.specs.Letters.{is_good_write, by_reading, hear_of}
use Rattle.letters.specs.declared.Standing.{Standing}
use Rattle.letters.proofs.hear.Goals as goal

-- where no good write is asked, what is taken decides
by_taken : (s : Standing) (q : Question) (mask : ℕ) (r : Result Taken Refusal) (taken : Taken) (values : List ℕ) → is_good_write q ≡ false → r ≡ Ok taken
    → by_reading s q (Ok taken) values ≡ hear_of s q mask r values
unfolding hear_of
by_taken s q mask r taken values other said = simp (other, said)

-- what is taken with no values leaves the letters as they stand
stays : (s : Standing) (q : Question) (taken : Taken) (values : List ℕ) → ((m : ℕ) → taken ≡ Values m → ⊥) → s ≡ by_reading s q (Ok taken) values
stays s q (Counted n) values h = refl
stays s q Written values h = refl
stays s q (Values m) values h = absurd (h m refl)

pub returns-then-is_good_write : goal.returns-then-is_good_write
unfolding hear_of
returns-then-is_good_write c = simp (sym c.is_good_write.ensures ∙ c.if-is_good_write.true) c.all_unheard.ensures

pub returns-in_default : goal.returns-in_default
unfolding hear_of
returns-in_default c = simp (sym c.is_good_write.ensures ∙ c.if-is_good_write.false, c.in_default.is)

pub returns-in_default-taken : goal.returns-in_default-taken
returns-in_default-taken c =
    let a = c.args in
    stays a.standing a.q c.in-Ok.taken a.values.now c.in_default-taken.not-Values
    ∙ by_taken a.standing a.q a.mask a.reading c.in-Ok.taken a.values.now (sym c.is_good_write.ensures ∙ c.if-is_good_write.false) c.in-Ok.is

pub returns : goal.returns
returns c =
    let a = c.args in
    c.decide.ensures ∙ sym (ap (λ (t : Taken). by_reading a.standing a.q (Ok t) a.values.now) c.in-Values.is)
    ∙ by_taken a.standing a.q a.mask a.reading c.in-Ok.taken a.values.now (sym c.is_good_write.ensures ∙ c.if-is_good_write.false) c.in-Ok.is
