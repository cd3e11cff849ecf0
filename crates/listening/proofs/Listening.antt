-- What `listen` says, by whether a good entry stands at the front.
use mathlib.Core.Path.{◌≡◌, sym, ap, ap₂, ◌∙◌}
use mathlib.Core.Bool.{Bool, true, cond}
use mathlib.Core.List.{List}
use Prim.Native.Nat.{ℕ, ◌+◌, ◌*◌}
use native.Mathlib.Omega.{arith}
use lib.ListN.{take, drop}
use Rattle.std.specs.Prelude.{Some, Ok}
use Rattle.ground.proofs.Test.{refuted}
use Rattle.packing.specs.Words.{words_of}
use Rattle.jobs.specs.declared.Header.{Header}
use Rattle.jobs.specs.declared.EntryAt.{EntryAt}
use Rattle.jobs.specs.declared.Cursor.{Cursor}
use Rattle.jobs.specs.Format.{field_size}
use Rattle.jobs.specs.Check.{words_in, size_in, good_entry, next_of}
use Rattle.jobs.proofs.Placed.{Said, no_other, Placed, words_there}
use Rattle.letters.specs.declared.Standing.{Standing}
use Rattle.listening.specs.declared.Listened.{Listened}
use Rattle.listening.specs.Listening.{heard_as, heard_here, listened_to, nothing_heard, listen_of}

module _ (h : Header) (front : List ℕ) (s : Standing) where
  abbrev said : Bool → Listened
  said t = cond t (listened_to s (heard_here h front) (size_in h.version front)) (nothing_heard s)

  pub nothing_there : (r : Said) → r ≡ next_of h front (record { at = 0 }) → ((e : EntryAt) (c : Cursor) → r ≡ Ok (Some (e, c)) → ⊥) → nothing_heard s ≡ listen_of h front s
  unfolding listen_of
  nothing_there r says other = sym (ap said (refuted (good_entry h front) (λ is. absurd (no_other h front 0 is r says other))))

  pub good_heard : good_entry h front ≡ true → listen_of h front s ≡ listened_to s (heard_here h front) (size_in h.version front)
  unfolding listen_of
  good_heard is = ap said is

  pub heard_there : (is : good_entry h front ≡ true) (e : EntryAt) (c : Cursor) → Placed h front 0 is e c
      → listened_to s (heard_as e.question e.mask (words_of (take (2 * e.words) (drop e.start front)))) (e.start + 2 * e.words) ≡ listen_of h front s
  heard_there is e c placed =
      let size : 0 + field_size h.version + 2 * words_in h.version front ≡ size_in h.version front = omega arith in
      ap (λ (x : EntryAt). listened_to s (heard_as x.question x.mask (words_of (take (2 * x.words) (drop x.start front)))) (x.start + 2 * x.words)) placed.entry
      ∙ ap₂ (λ (l : List ℕ) (k : ℕ). listened_to s (heard_as (heard_here h front).question (heard_here h front).mask l) k) (words_there h front 0 is) size
      ∙ sym (good_heard is)
