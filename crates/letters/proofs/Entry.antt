-- What one entry does to the write that stands and to a device's letter: a good write starts anew; any other entry leaves the write and its
-- mask, and changes the letter only where it decides it.
use mathlib.Core.Path.{◌≡◌, refl, ap, ◌∙◌}
use mathlib.Core.Bool.{true, false, cond}
use Prim.Native.Nat.{ℕ, ◌<◌}
use native.Mathlib.Nat.{zero-add}
use lib.ListN.{get_or}
use Rattle.std.specs.Prelude.{Result, Ok, Err}
use Rattle.ground.proofs.Sweep.{tabulated_at}
use Rattle.readings.specs.declared.Refusal.{Refusal}
use Rattle.readings.specs.declared.Taken.{Taken}
use Rattle.readings.specs.declared.Taken.TheVariants.{Counted, Written, Values}
use Rattle.letters.specs.Letters.{Heard, verdict, letter_after, unheard, by_reading, hear_of}
use Rattle.letters.specs.Meaning.{good_write, decisive, own_value}
use Rattle.letters.specs.declared.Standing.{Standing}

-- the standing state after one entry
abbrev pub heard : Standing → Heard → Standing
heard s e = hear_of s e.question e.mask e.reading e.values

-- the write that stands and its mask, as the write began
abbrev pub anew : Standing → Standing
anew s = unheard s.write s.mask

pub good_write_starts_anew : (s : Standing) (e : Heard) → good_write e ≡ true → heard s e ≡ unheard e.question e.mask
unfolding hear_of
good_write_starts_anew s e good = simp good

pub other_entry_keeps_write : (s : Standing) (e : Heard) → good_write e ≡ false → anew (heard s e) ≡ anew s
unfolding hear_of
other_entry_keeps_write s e other = simp other (each e.reading)
  where
    each : (r : Result Taken Refusal) → anew (by_reading s e.question r e.values) ≡ anew s
    each (Ok (Counted n)) = refl
    each (Ok Written) = refl
    each (Ok (Values m)) = refl
    each (Err why) = refl

-- the verdict of an entry that decides, else the letter that stood
abbrev pub next_letter : Standing → Heard → ℕ → ℕ
next_letter s e a = cond (decisive s.write a e) (verdict s.mask (own_value a e) s.write.value) (get_or s.letters a 0)

pub letter_next : (s : Standing) (e : Heard) (a : ℕ) → a < 32 → good_write e ≡ false → get_or (heard s e).letters a 0 ≡ next_letter s e a
unfolding hear_of letter_after
letter_next s e a h other = simp other (each e.reading)
  where
    each : (r : Result Taken Refusal) → get_or (by_reading s e.question r e.values).letters a 0
        ≡ next_letter s (record { question = e.question; mask = e.mask; reading = r; values = e.values }) a
    each (Ok (Counted n)) = refl
    each (Ok Written) = refl
    each (Ok (Values m)) =
        tabulated_at rule 32 0 a h ∙ ap rule (zero-add a)
      where
        rule : ℕ → ℕ
        rule a = letter_after s.write s.mask e.question a e.values (get_or s.letters a 0)
    each (Err why) = refl
