-- The last entry that passes a test: none passes, or one is the last; and where none of a list passes, none of either part does.
use mathlib.Core.Path.{◌≡◌, refl, ap}
use mathlib.Core.Bool.{Bool, true, false}
use mathlib.Core.Logic.{◌⊎◌, inl, inr, ⊎_elim}
use mathlib.Core.List.{List, [], ◌∷◌, ◌++◌}
use Rattle.letters.specs.Letters.{Heard}
use Rattle.letters.specs.Meaning.{None, Last}

-- none of a list passes: none of either part of it does
pub none_in_parts : {test : Heard → Bool} (xs : List Heard) {ys : List Heard} → None test (xs ++ ys) → None test xs × None test ys
none_in_parts [] n = (None.none, n)
none_in_parts (x ∷ xs) (None.more e es fails n) = let parts = none_in_parts xs n in (None.more x xs fails parts.0, parts.1)

-- none passes, or one is the last
pub search_last : (test : Heard → Bool) (es : List Heard) → None test es ⊎ Last test es
search_last test [] = inl None.none
search_last test (e ∷ es) = ⊎_elim (λ n. here n (test e) refl) (λ l. inr (later l)) (search_last test es)
  where
    here : None test es → (t : Bool) → test e ≡ t → None test (e ∷ es) ⊎ Last test (e ∷ es)
    here n true passes = inr record { before = []; entry = e; after = es; whole = refl; passes = passes; last = n }
    here n false fails = inl (None.more e es fails n)

    later : Last test es → Last test (e ∷ es)
    later l =
        record {
          before = e ∷ l.before;
          entry = l.entry;
          after = l.after;
          whole = ap (λ (rest : List Heard). e ∷ rest) l.whole;
          passes = l.passes;
          last = l.last;
        }
