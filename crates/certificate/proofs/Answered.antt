-- WHICH ANSWER COMES: FILE where the file is no job file, ROOM where its text is longer than the lent memory, else the text.
use mathlib.Core.Path.{◌≡◌, refl}
use mathlib.Core.Bool.{Bool, true, false, cond}
use mathlib.Core.List.{List}
use Prim.Native.Nat.{ℕ, ◌≤◌, ◌<◌}
use Rattle.std.specs.Prelude.{Result, Ok, Err}
use lib.Dec.{leb}
use lib.ListN.{length}
use borrow.Author.Tests.{leb-true, leb-false, le-leb}
use Rattle.jobs.specs.Check.{good_file}
use Rattle.jobs.specs.declared.FileRefusal.{FileRefusal}
use Rattle.jobs.specs.declared.FileRefusal.TheVariants.{File, Room}
use Rattle.certificate.specs.Certificate.{certificate_of, certified_of}

module _ (file text : List ℕ) where
  pub data Answered : Result ℕ FileRefusal → Type 0 where
    no_job : good_file file ≡ false → Answered (Err File)
    no_room : good_file file ≡ true → length text < length (certificate_of file) → Answered (Err Room)
    all : good_file file ≡ true → length (certificate_of file) ≤ length text → Answered (Ok (length (certificate_of file)))

  pub answered : Answered (certified_of file text)
  unfolding certified_of
  answered = by_tests (good_file file) refl (leb (length (certificate_of file)) (length text)) refl
    where
      by_tests : (t : Bool) → good_file file ≡ t → (u : Bool) → leb (length (certificate_of file)) (length text) ≡ u
          → Answered (cond t (cond u (Ok (length (certificate_of file))) (Err Room)) (Err File))
      by_tests true ok true fits = all ok (leb-true (length (certificate_of file)) (length text) fits)
      by_tests true ok false over = no_room ok (leb-false (length (certificate_of file)) (length text) over)
      by_tests false bad u either = no_job bad

  -- a job file's text is written where it has room
  pub written_out : good_file file ≡ true → length (certificate_of file) ≤ length text → certified_of file text ≡ Ok (length (certificate_of file))
  unfolding certified_of
  written_out ok room = simp (ok, le-leb (length (certificate_of file)) (length text) room)
