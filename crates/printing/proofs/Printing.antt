-- What `print` owes in each of its three cases.
use mathlib.Core.Path.{◌≡◌, ap, ◌∙◌}
use mathlib.Core.List.{List}
use Prim.Native.Nat.{ℕ, ◌≤◌, ◌<◌}
use Rattle.std.specs.Prelude.{Result, Ok, Err}
use native.Mathlib.Nat.{zero-add}
use lib.ListN.{length}
use borrow.Author.Tests.{le-leb, lt-leb}
use Rattle.ground.proofs.Lists.{sets_front}
use Rattle.lines.specs.Write.{at_front, left_by}
use Rattle.letters.specs.declared.Standing.{Standing}
use Rattle.printing.specs.Text.{certificate_text}
use Rattle.printing.specs.Print.{most_entries, printed_of, printed_number, PrintDone, StoredAt}
use Rattle.printing.specs.declared.PrintRefusal.{PrintRefusal}
use Rattle.printing.specs.declared.PrintRefusal.TheVariants.{Many, Room}

module _ (version n : ℕ) (numbers : List ℕ) (s : Standing) (text : List ℕ) where
  -- the lent memory by the answer
  abbrev left : Result ℕ PrintRefusal → List ℕ
  left r = left_by (printed_number r) (at_front (certificate_text version n numbers s) text) text

  pub too_many : most_entries < length numbers → PrintDone version n numbers s text text (Err Many)
  unfolding printed_of
  too_many many =
      let says : Err Many ≡ printed_of version n numbers s text = simp (lt-leb (length numbers) most_entries many) in
      record { says = says; leaves = ap left says }

  module _ (few : length numbers ≤ most_entries) where
    pub no_room : length text < length (certificate_text version n numbers s) → PrintDone version n numbers s text text (Err Room)
    unfolding printed_of
    no_room short =
        let fits = le-leb (length numbers) most_entries few in
        let says : Err Room ≡ printed_of version n numbers s text = simp (fits, lt-leb (length (certificate_text version n numbers s)) (length text) short) in
        record { says = says; leaves = ap left says }

    pub printed : {after : List ℕ} {end : ℕ} → length (certificate_text version n numbers s) ≤ length text
        → StoredAt text 0 (certificate_text version n numbers s) after end → PrintDone version n numbers s text after (Ok end)
    unfolding printed_of
    printed {end = end} enough laid =
        let whole = certificate_text version n numbers s in
        let fits = le-leb (length numbers) most_entries few in
        let room = le-leb (length whole) (length text) enough in
        let says : Ok end ≡ printed_of version n numbers s text = simp (fits, room) (ap Ok (laid.up ∙ zero-add (length whole))) in
        record { says = says; leaves = laid.leaves ∙ sets_front whole text enough ∙ ap left says }
