-- The call's answers: FILE, then ROOM, else the whole file anew.
use mathlib.Core.Path.{◌≡◌, refl, ap, ◌∙◌}
use mathlib.Core.Bool.{Bool, true, false, cond}
use mathlib.Core.List.{List}
use Prim.Native.Nat.{ℕ, ◌≤◌, ◌<◌}
use native.Mathlib.Omega.{arith}
use Rattle.std.specs.Prelude.{Result, Ok, Err}
use Rattle.std.specs.Result.{IsErrAnd}
use lib.Dec.{leb}
use lib.ListN.{length}
use lib.Seq.{sets}
use borrow.Author.Tests.{leb-true, le-leb, lt-leb}
use Rattle.ground.proofs.Lists.{sets_front}
use Rattle.lines.specs.Write.{at_front, left_by}
use Rattle.jobs.specs.Check.{good_file}
use Rattle.jobs.specs.declared.FileRefusal.{FileRefusal}
use Rattle.jobs.specs.declared.FileRefusal.TheVariants.{File, Room}
use Rattle.rehearsal.specs.Rehearsal.{rehearsal_of, rehearsed_of, rehearsed_number, RehearsalDone}

module _ (file out : List ℕ) where
  -- the lent memory by the answer
  abbrev left : Result ℕ FileRefusal → List ℕ
  left r = left_by (rehearsed_number r) (at_front (rehearsal_of file) out) out

  pub no_job_file : good_file file ≡ false → RehearsalDone file out out (Err File)
  unfolding rehearsed_of
  no_job_file bad =
      let says : Err File ≡ rehearsed_of file out = simp bad in
      record { says = says; leaves = ap left says }

  module _ (ok : good_file file ≡ true) where
    pub too_long : 65536 < length (rehearsal_of file) → RehearsalDone file out out (Err File)
    unfolding rehearsed_of
    too_long long =
        let says : Err File ≡ rehearsed_of file out = simp (ok, lt-leb (length (rehearsal_of file)) 65536 long) in
        record { says = says; leaves = ap left says }

    pub too_little_room : length (rehearsal_of file) ≤ 65536 → length out < length (rehearsal_of file) → RehearsalDone file out out (Err Room)
    unfolding rehearsed_of
    too_little_room short less =
        let fits = le-leb (length (rehearsal_of file)) 65536 short in
        let says : Err Room ≡ rehearsed_of file out = simp (ok, fits, lt-leb (length (rehearsal_of file)) (length out) less) in
        record { says = says; leaves = ap left says }

    pub anew : (after : List ℕ) (bytes : ℕ) → bytes ≡ length (rehearsal_of file) → length (rehearsal_of file) ≤ 65536
        → length (rehearsal_of file) ≤ length out → after ≡ sets out 0 (rehearsal_of file) → RehearsalDone file out after (Ok bytes)
    unfolding rehearsed_of
    anew after bytes is short room leaves =
        let fits = le-leb (length (rehearsal_of file)) 65536 short in
        let enough = le-leb (length (rehearsal_of file)) (length out) room in
        let says : Ok bytes ≡ rehearsed_of file out = simp (ok, fits, enough, is) in
        record { says = says; leaves = leaves ∙ sets_front (rehearsal_of file) out room ∙ ap left says }

-- what is written lies within the lent memory
pub written_within : (file out : List ℕ) (n : ℕ) → rehearsed_of file out ≡ Ok n → n ≤ length out
unfolding rehearsed_of
written_within file out n =
    by_test (good_file file) (leb (length (rehearsal_of file)) 65536) (leb (length (rehearsal_of file)) (length out))
    (λ fits. leb-true (length (rehearsal_of file)) (length out) fits)
  where
    by_test : (t u v : Bool) → (v ≡ true → length (rehearsal_of file) ≤ length out)
        → ◌≡◌ {A = Result ℕ FileRefusal} (cond t (cond u (cond v (Ok (length (rehearsal_of file))) (Err Room)) (Err File)) (Err File)) (Ok n) → n ≤ length out
    by_test true true true fits e = let is : length (rehearsal_of file) ≡ n = cc in omega (arith, is, fits refl)
    by_test true true false fits e = let z : ◌≡◌ {A = ℕ} 0 1 = cc in absurd (omega arith)
    by_test true false v fits e = let z : ◌≡◌ {A = ℕ} 0 1 = cc in absurd (omega arith)
    by_test false u v fits e = let z : ◌≡◌ {A = ℕ} 0 1 = cc in absurd (omega arith)

-- an answer of a call that `?` ends
pub ended_by : (r : Result ℕ FileRefusal) (why : FileRefusal) → IsErrAnd r (λ e. e ≡ why) → r ≡ Err why
ended_by (Ok n) why never = absurd never
ended_by (Err e) why is = ap failed is
  where
    failed : FileRefusal → Result ℕ FileRefusal
    failed x = Err x
