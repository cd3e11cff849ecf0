-- WHICH NUMBER A JOB FILE GETS (document 01, "Turned away"): FILE exactly where the bytes are the encoding of no header and entries that keep the
-- rules, of an entry taken out where they begin with the encoding of no entry that keeps them, of a rehearsal also where the answered file would
-- be too long; then ROOM exactly where what is to be written is longer than the lent memory; else 0.
use mathlib.Core.Path.{◌≡◌, refl, sym, ap, ap₂, subst, ◌∙◌}
use mathlib.Core.Bool.{Bool, true, false, cond, false≢true}
use mathlib.Core.Logic.{◌⊎◌, inl, inr, ⊎_elim}
use mathlib.Core.List.{List, [], ◌∷◌, ◌++◌}
use Prim.Native.Nat.{ℕ, ◌+◌, ◌%◌, ◌≤◌, ◌<◌}
use native.Mathlib.Omega.{arith}
use lib.Dec.{leb}
use lib.ListN.{length, get_or, drop}
use borrow.Author.Tests.{leb-true, leb-false}
use Rattle.std.specs.Prelude.{Result, Some, Ok, Err}
use Rattle.ground.proofs.Test.{refuted}
use Rattle.remainder.specs.Turned.{Bytes}
use Rattle.readings.specs.Reading.{number_of}
use Rattle.judging.specs.Judge.{judge_of}
use Rattle.jobs.specs.declared.Header.{Header}
use Rattle.jobs.specs.Format.{Entry, head_size, entry_bytes, asked}
use Rattle.jobs.specs.declared.Cursor.{Cursor}
use Rattle.jobs.specs.Refusals.{not_job}
use Rattle.jobs.specs.Check.{header_in, size_in, entry_in, entries_in, good_entry, good_file, placed_in, opened_of, opened_number, next_in, next_of, next_number}
use Rattle.jobs.specs.Encoded.{Fits, Keeps, Encodes}
use Rattle.jobs.proofs.Sizes.{head_length}
use Rattle.jobs.proofs.OneEntry.{entry_back, entry_good, good_is_written, drop_bytes}
use Rattle.jobs.proofs.GoodFile.{header_read, entries_read, encoded_is_good, good_is_encoded}
use Rattle.letters.specs.declared.Standing.{Standing}
use Rattle.printing.specs.Text.{device_line_if, certificate_text}
use Rattle.printing.specs.Print.{most_entries, printed_of, printed_number}
use Rattle.printing.specs.declared.PrintRefusal.TheVariants as printed
use Rattle.certificate.specs.Certificate.{certificate_of, certified_of, certified_number}
use Rattle.jobs.specs.declared.FileRefusal.{FileRefusal}
use Rattle.jobs.specs.declared.FileRefusal.TheVariants as refusal
use Rattle.certificate.proofs.Answered.{Answered, no_job, no_room, all, answered}
use Rattle.registers.specs.Memory.{power_on_memory}
use Rattle.listening.specs.Listening.{heard_here, listened_to, nothing_heard, listen_of}
use Rattle.rehearsal.specs.Rehearsal.{answered_size, rehearsal_of, rehearsed_of, rehearsed_number}
use Rattle.rehearsal.proofs.Counting.{rehearsed_size}
use Rattle.bmc.specs.Exports.{packed_certified, CertificateBytesDone}
use Rattle.promises.specs.ByNumber.{row, NumberDue}
use Rattle.promises.specs.Rows.{read_rows}
use Rattle.promises.specs.Certificate.{lines_of}
use Rattle.promises.specs.CallRows.{room, NoJobFile, NoEntry, next_rows, certify_rows, AnsweredAbove, rehearse_rows}
use Rattle.promises.proofs.Rows.{by_number}
use Rattle.promises.proofs.CallsByNumber.{enough_room, short_of_room}
use Rattle.promises.proofs.Certificate.{text_for, only_text}

-- a test of the bytes, in place of what it says of them
pub bad_is_no_job : (file : List ℕ) → good_file file ≡ false → NoJobFile file
bad_is_no_job file bad h es encoded = false≢true (sym bad ∙ encoded_is_good h es file encoded)

pub good_is_a_job : (file : List ℕ) → Bytes file → good_file file ≡ true → NoJobFile file → ⊥
good_is_a_job file small good none = none (header_in file) (entries_in (header_in file).version (drop head_size file)) (good_is_encoded file small good)

bad_is_no_entry : (h : Header) (rest : List ℕ) → good_entry h rest ≡ false → NoEntry h rest
bad_is_no_entry h rest bad e later fits rules written = false≢true (sym bad ∙ ap (good_entry h) written ∙ entry_good h e fits rules later)

good_is_an_entry : (h : Header) (rest : List ℕ) → Bytes rest → good_entry h rest ≡ true → NoEntry h rest → ⊥
good_is_an_entry h rest small good none =
    let is = good_is_written h rest small good in none (entry_in h.version rest) (drop (size_in h.version rest) rest) is.fits is.rules (sym is.again)

-- ---- a file opened, an entry taken out

pub opened_by_number : (file : List ℕ) → Bytes file → NumberDue (row 14 (NoJobFile file) ∷ []) (opened_number (opened_of file))
unfolding opened_of
opened_by_number file small = by_test (good_file file) refl
  where
    by_test : (good : Bool) → good_file file ≡ good → NumberDue (row 14 (NoJobFile file) ∷ []) (opened_number (cond good (Ok (header_in file)) (Err not_job)))
    by_test true good = inr (good_is_a_job file small good, refl)
    by_test false bad = inl (bad_is_no_job file bad, refl)

pub next_by_number : (h : Header) (file : List ℕ) (c : Cursor) → Bytes file
    → NumberDue (next_rows h (drop c.at file)) (next_number (next_of h file c))
unfolding next_of
next_by_number h file c small = by_rest (drop c.at file) (drop_bytes c.at file small)
  where
    by_rest : (rest : List ℕ) → Bytes rest → NumberDue (next_rows h rest) (next_number (next_in h c.at rest))
    by_rest [] few = inr ((λ some. omega (arith, some.0)), refl)
    by_rest (b ∷ rest) few = by_test (good_entry h (b ∷ rest)) refl
      where
        by_test : (good : Bool) → good_entry h (b ∷ rest) ≡ good
            → NumberDue (next_rows h (b ∷ rest)) (next_number (cond good (Ok (Some (placed_in h c.at (b ∷ rest)))) (Err not_job)))
        by_test true good = inr ((λ some. good_is_an_entry h (b ∷ rest) few good some.1), refl)
        by_test false bad = inl ((omega arith, bad_is_no_entry h (b ∷ rest) bad), refl)

-- ---- an entry heard

pub listened_by_number : (h : Header) (e : Entry) (later : List ℕ) (s : Standing) → Fits h.version e → Keeps h e
    → NumberDue (read_rows (asked h e) e.words 32) (listen_of h (entry_bytes h.version e ++ later) s).number
unfolding listen_of
listened_by_number h e later s fits rules = subst (NumberDue (read_rows (asked h e) e.words 32)) (sym heard) (by_number (asked h e) e.words 32)
  where
    front : List ℕ
    front = entry_bytes h.version e ++ later

    number : Entry → ℕ
    number x = number_of (judge_of (asked h x) x.words 32)

    heard : (listen_of h front s).number ≡ number e
    heard =
        ap (λ (t : Bool). (cond t (listened_to s (heard_here h front) (size_in h.version front)) (nothing_heard s)).number) (entry_good h e fits rules later)
        ∙ ap number (entry_back h e fits rules later)

pub nothing_by_number : (h : Header) (front : List ℕ) (s : Standing) → Bytes front → NoEntry h front
    → NumberDue (row 14 (NoEntry h front) ∷ []) (listen_of h front s).number
unfolding listen_of
nothing_by_number h front s small none =
    let bad = refuted (good_entry h front) (λ good. good_is_an_entry h front small good none) in
    inl (none, ap (λ (t : Bool). (cond t (listened_to s (heard_here h front) (size_in h.version front)) (nothing_heard s)).number) bad)

-- ---- a text printed

text_by_number : (version n : ℕ) (numbers : List ℕ) (s : Standing) (text : List ℕ)
    → NumberDue (row 14 (most_entries < length numbers) ∷ room (length text) (length (certificate_text version n numbers s)) ∷ []) (printed_number (printed_of version n numbers s text))
unfolding printed_of
text_by_number version n numbers s text = by_tests (leb (length numbers) most_entries) refl (leb bytes (length text)) refl
  where
    bytes : ℕ
    bytes = length (certificate_text version n numbers s)

    by_tests : (few : Bool) → leb (length numbers) most_entries ≡ few → (fits : Bool) → leb bytes (length text) ≡ fits
        → NumberDue (row 14 (most_entries < length numbers) ∷ room (length text) bytes ∷ []) (printed_number (cond few (cond fits (Ok bytes) (Err printed.Room)) (Err printed.Many)))
    by_tests false many fits f = inl (leb-false (length numbers) most_entries many, refl)
    by_tests true few true fits = inr ((λ many. omega (arith, leb-true (length numbers) most_entries few)), enough_room (length text) bytes fits)
    by_tests true few false short = inr ((λ many. omega (arith, leb-true (length numbers) most_entries few)), short_of_room (length text) bytes short)

pub printed_by_number : (version n : ℕ) (numbers : List ℕ) (s : Standing) (text : List ℕ)
    → NumberDue (row 14 (most_entries < length numbers) ∷ room (length text) (length (lines_of version n numbers (λ a. device_line_if s.write a (get_or s.letters a 0)))) ∷ [])
    (printed_number (printed_of version n numbers s text))
unfolding certificate_text
printed_by_number = text_by_number

-- ---- the certificate

pub certified_by_number : (file before : List ℕ) → Bytes file
    → NumberDue (certify_rows file (length before)) (certified_number (certified_of file before))
certified_by_number file before small = by_answer (certified_of file before) (answered file before)
  where
    by_answer : (c : Result ℕ FileRefusal) → Answered file before c → NumberDue (certify_rows file (length before)) (certified_number c)
    by_answer _ (no_job bad) = inl (bad_is_no_job file bad, refl)
    by_answer _ (no_room good over) =
        let text = text_for _ _ file (good_is_encoded file small good) in
        inr (good_is_a_job file small good, inl ((certificate_of file, text, omega (arith, over)), refl))
    by_answer _ (all good room) =
        inr (good_is_a_job file small good, inr (λ over. omega (arith, room, ap length (only_text file over.0 over.1), over.2), refl))

-- of C's call in the lowest eight bits
pub packed_number : (file before after : List ℕ) (r : ℕ) → CertificateBytesDone file before after r → r % 256 ≡ certified_number (certified_of file before)
packed_number file before after r done = ap (λ (k : ℕ). k % 256) done.says ∙ own_number (certified_of file before)
  where
    own_number : (c : Result ℕ FileRefusal) → packed_certified c % 256 ≡ certified_number c
    own_number (Ok n) = omega arith
    own_number (Err refusal.File) = refl
    own_number (Err refusal.Room) = refl

pub certificate_bytes_by_number : (file before after : List ℕ) (r : ℕ) → Bytes file → CertificateBytesDone file before after r
    → NumberDue (certify_rows file (length before)) (r % 256)
certificate_bytes_by_number file before after r small done =
    subst (NumberDue (certify_rows file (length before))) (sym (packed_number file before after r done))
    (certified_by_number file before small)

-- ---- the rehearsal

answered_bytes : (h : Header) (es : List Entry) (file : List ℕ) → Encodes h es file → length (rehearsal_of file) ≡ head_size + answered_size h es
unfolding rehearsal_of
answered_bytes h es file encoded =
    let g = header_in file in
    let read = entries_in g.version (drop head_size file) in
    let same : answered_size g read ≡ answered_size h es = ap₂ answered_size (header_read h es file encoded) (entries_read h es file encoded) in
    omega (arith, rehearsed_size g (power_on_memory g.n) read, same, head_length g)

-- the length of the answered file, in place of what it says of the encoded entries
above : (file : List ℕ) (most : ℕ) → Bytes file → good_file file ≡ true → most < length (rehearsal_of file) → AnsweredAbove file most
above file most small good over =
    let encoded = good_is_encoded file small good in
    let bytes = answered_bytes (header_in file) (entries_in (header_in file).version (drop head_size file)) file encoded in
    (header_in file, entries_in (header_in file).version (drop head_size file), encoded, omega (arith, bytes, over))

not_above : (file : List ℕ) (most : ℕ) → length (rehearsal_of file) ≤ most → AnsweredAbove file most → ⊥
not_above file most fits over = omega (arith, fits, answered_bytes over.0 over.1 file over.2, over.3)

pub rehearsed_by_number : (file before : List ℕ) → Bytes file
    → NumberDue (rehearse_rows file (length before)) (rehearsed_number (rehearsed_of file before))
unfolding rehearsed_of
rehearsed_by_number file before small = by_tests (good_file file) refl (leb bytes 65536) refl (leb bytes (length before)) refl
  where
    bytes : ℕ
    bytes = length (rehearsal_of file)

    by_tests : (good : Bool) → good_file file ≡ good → (short : Bool) → leb bytes 65536 ≡ short → (fits : Bool) → leb bytes (length before) ≡ fits
        → NumberDue (rehearse_rows file (length before))
        (rehearsed_number (cond good (cond short (cond fits (Ok bytes) (Err refusal.Room)) (Err refusal.File)) (Err refusal.File)))
    by_tests false bad short e fits f = inl (inl (bad_is_no_job file bad), refl)
    by_tests true good false long fits f = inl (inr (above file _ small good (omega (arith, leb-false bytes 65536 long))), refl)
    by_tests true good true short fits f =
        inr (⊎_elim (good_is_a_job file small good) (not_above file _ (omega (arith, leb-true bytes 65536 short))), by_room fits f)
      where
        by_room : (fits : Bool) → leb bytes (length before) ≡ fits
            → (AnsweredAbove file (length before) × (rehearsed_number (cond fits (Ok bytes) (Err refusal.Room)) ≡ 2))
            ⊎ ((AnsweredAbove file (length before) → ⊥) × (rehearsed_number (cond fits (Ok bytes) (Err refusal.Room)) ≡ 0))
        by_room true room = inr (not_above file (length before) (omega (arith, leb-true bytes (length before) room)), refl)
        by_room false over = inl (above file (length before) small good (omega (arith, leb-false bytes (length before) over)), refl)
