-- What `certify` answers: a file that is no job is turned away, and a job's certificate is what was printed.
use mathlib.Core.Path.{◌≡◌, refl, sym, ap, subst, ◌∙◌}
use mathlib.Core.Bool.{Bool, true, false, cond}
use mathlib.Core.List.{List}
use Prim.Native.Nat.{ℕ, ◌≤◌}
use native.Mathlib.Omega.{arith}
use Rattle.std.specs.Prelude.{Result, Ok, Err}
use Rattle.std.specs.Result.{IsErrAnd}
use lib.Dec.{leb}
use lib.ListN.{length, drop, length-drop, length-map}
use borrow.Author.Tests.{le-leb}
use Rattle.lines.specs.Write.{at_front, left_by}
use Rattle.jobs.specs.declared.Header.{Header}
use Rattle.jobs.specs.Format.{head_size}
use Rattle.jobs.specs.Check.{entries_in, good_file, header_in}
use Rattle.jobs.proofs.Sizes.{head_bounds}
use Rattle.jobs.proofs.Entries.{few_entries, parts}
use Rattle.listening.specs.Listening.{heard_of, number_for}
use Rattle.printing.specs.Text.{certificate_text}
use Rattle.printing.specs.Print.{most_entries, printed_of, printed_number, PrintDone}
use Rattle.printing.specs.declared.PrintRefusal.{PrintRefusal}
use Rattle.printing.specs.declared.PrintRefusal.TheVariants.{Many, Room as no_space}
use Rattle.jobs.specs.declared.FileRefusal.{FileRefusal}
use Rattle.jobs.specs.declared.FileRefusal.TheVariants.{File, Room}
use Rattle.certificate.specs.Certificate.{heard_in, numbers_of, standing_of, certificate_of, certified_of, certified_number, CertificateDone}
use Rattle.certificate.specs.Telling.{certified_as}

pub turned_away : (file text : List ℕ) → good_file file ≡ false → CertificateDone file text text (Err File)
unfolding certified_of
turned_away file text bad =
    let says : Err File ≡ certified_of file text = simp bad in
    record { says = says; leaves = ap (λ (r : Result ℕ FileRefusal). left_by (certified_number r) (at_front (certificate_of file) text) text) says }

-- a good file has no more entries than can be printed
pub countable : (file : List ℕ) → good_file file ≡ true → length (numbers_of (heard_in file)) ≤ most_entries
countable file ok =
    let entries = entries_in (header_in file).version (drop head_size file) in
    let p = parts file ok in
    omega (
      arith,
      length-map (heard_in file) number_for,
      length-map entries (heard_of (header_in file)),
      few_entries (header_in file) (drop head_size file) p.entries,
      length-drop head_size file,
      p.size,
      p.long,
      head_bounds.0,
    )

pub certified : (h : Header) (file text text' : List ℕ) (r : Result ℕ PrintRefusal) → good_file file ≡ true → h ≡ header_in file
    → PrintDone h.version h.n (numbers_of (heard_in file)) (standing_of file) text text' r → CertificateDone file text text' (certified_as r)
unfolding certified_of certificate_of printed_of
certified h file text text' r ok is done =
    let numbers = numbers_of (heard_in file) in
    let few = le-leb (length numbers) most_entries (countable file ok) in
    let done' = subst (λ (x : Header). PrintDone x.version x.n numbers (standing_of file) text text' r) is done in
    let cert = certificate_text (header_in file).version (header_in file).n numbers (standing_of file) in
    let fits = leb (length cert) (length text) in
    let answer = printed_of (header_in file).version (header_in file).n numbers (standing_of file) text in
    let said : certified_as answer ≡ certified_of file text =
    ap (λ (t : Bool). certified_as (cond t (cond fits (Ok (length cert)) (Err no_space)) (Err Many))) few
    ∙ either fits (length cert) ∙ sym (ap (λ (t : Bool). cond t (cond fits (Ok (length cert)) (Err Room)) (Err File)) ok) in
    record {
      says = ap certified_as done'.says ∙ said;
      leaves = done'.leaves ∙ ap (λ (k : ℕ). left_by k (at_front cert text) text) (sym (same_number answer) ∙ ap certified_number said);
    }
  where
    either : (t : Bool) (n : ℕ) → certified_as (cond t (Ok n) (Err no_space)) ≡ cond t (Ok n) (Err Room)
    either true n = refl
    either false n = refl

    same_number : (p : Result ℕ PrintRefusal) → certified_number (certified_as p) ≡ printed_number p
    same_number (Ok n) = refl
    same_number (Err Many) = refl
    same_number (Err no_space) = refl

-- an answer of a call that `?` ends
pub ended_by : (r : Result ℕ FileRefusal) (why : FileRefusal) → IsErrAnd r (λ e. e ≡ why) → r ≡ Err why
ended_by (Ok n) why never = absurd never
ended_by (Err e) why is = ap failed is
  where
    failed : FileRefusal → Result ℕ FileRefusal
    failed x = Err x
