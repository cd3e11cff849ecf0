-- DEMAND 1. Every line, every question and every job file gets an answer; bad input is turned away by number; a call that is turned away has
-- written nothing into lent memory. Claimed of each call below, on all input: one answer and one content of the lent memory meet the call's
-- contract, and no other; the answer has the number that is due by document 01's rows, in the order of their checks, and 0 where none is given;
-- where it has a row's number, whichever row, the memory is as it was. (That a call comes to an end is part of its function's own check.)
use Rattle.std.specs.Prelude.{◌≡◌, false, ◌⊎◌, List, [], ◌∷◌, ◌++◌, ℕ, suc, ◌/◌, ◌≤◌, ◌<◌, ℤ, Float, length, get_or, drop}
use Rattle.remainder.specs.Turned.{Bytes}
use Rattle.pec.specs.Pec.{pec_of}
use Rattle.lines.specs.Line.{line_of}
use Rattle.packing.specs.Words.{line_on, word_at}
use Rattle.writing.specs.PutLine.{LinePut, put_number}
use Rattle.questions.specs.declared.question.Question.{Question}
use Rattle.readings.specs.Reading.{number_of}
use Rattle.reader.specs.Read.{ReadDone}
use Rattle.parts.specs.Part.{part_of}
use Rattle.reasons.specs.Reason.{reason_of, reason_number}
use Rattle.commands.specs.Command.{CommandPut, issued_number}
use Rattle.cells.specs.Cell.{enabled, cell_of, cells_of, cell_number}
use Rattle.cells.specs.declared.Cell.{Cell}
use Rattle.cells.specs.declared.Cell.TheVariants.{NotMeasured}
use Rattle.cells.specs.declared.Range.{Range}
use Rattle.cells.specs.declared.Register.{Register}
use Rattle.registers.specs.Memory.{PoweredOn, powered_number}
use Rattle.twin.specs.Step.{StepDone, SpanDone, ChainDone, stepped_number}
use Rattle.jobs.specs.declared.Header.{Header}
use Rattle.jobs.specs.declared.Cursor.{Cursor}
use Rattle.jobs.specs.Format.{Entry, entry_bytes, asked}
use Rattle.jobs.specs.Encoded.{Fits, Keeps}
use Rattle.jobs.specs.Check.{opened_of, opened_number, next_of, next_number}
use Rattle.letters.specs.declared.Standing.{Standing}
use Rattle.listening.specs.declared.Listened.{Listened}
use Rattle.listening.specs.Listening.{listen_of}
use Rattle.printing.specs.Text.{device_line_if}
use Rattle.printing.specs.Print.{most_entries, PrintDone, printed_number}
use Rattle.certificate.specs.Certificate.{CertificateDone, certified_number}
use Rattle.rehearsal.specs.Rehearsal.{RehearsalDone, rehearsed_number}
use Rattle.c_reader.specs.ReadBytes.{ReadBytesDone}
use Rattle.c_commands.specs.CommandBytes.{CommandBytesDone}
use Rattle.c_parts.specs.PartBytes.{part_in}
use Rattle.c_reasons.specs.Explain.{reason_on, packed_on}
use Rattle.c_cells.specs.CellBytes.{CellDone}
use Rattle.c_cells.specs.CellsBytes.{CellsDone}
use Rattle.c_twin.specs.TwinBytes.{PowerBytesDone, StepBytesDone, RunBytesDone}
use Rattle.bmc.specs.Exports.{CertificateBytesDone}
use Rattle.promises.specs.ByNumber.{Row, row, NumberDue, packed_number}
use Rattle.promises.specs.Rows.{read_rows}
use Rattle.promises.specs.Certificate.{lines_of}
use Rattle.promises.specs.CallRows.{room, command_rows, NoChain, NoSpan, twin_rows, twin_bytes_rows}
use Rattle.promises.specs.CallRows.{NoJobFile, NoEntry, next_rows, certify_rows, rehearse_rows, cell_rows}

-- turned away: an answer's number is a row's, and not 0
abbrev pub TurnedAway : (number : ℕ) → Type 0
TurnedAway number = 1 ≤ number

-- what is claimed of a call on some input; `Contract after r` is its contract there: it answers r, and leaves the lent memory as `after`
pub record Answers {Answer Memory : Type 0} (rows : List Row) (number : Answer → ℕ) (before : Memory) (Contract : (after : Memory) → Answer → Type 0) : Type 0 where
  -- there is an answer, and so a memory after the call,
  pub answer : Answer
  pub leaves : Memory
  pub meets : Contract leaves answer
  -- there is no other,
  pub only : (after : Memory) (r : Answer) → Contract after r → (r ≡ answer) × (after ≡ leaves)
  -- its number is the one that is due,
  pub by_number : NumberDue rows (number answer)
  -- and turned away the call has written nothing
  pub refused : (after : Memory) (r : Answer) → Contract after r → TurnedAway (number r) → after ≡ before

-- the contract of a call that is lent nothing to write: it answers this
abbrev pub Returns : {Answer : Type 0} (answer r : Answer) → Type 0
Returns answer r = r ≡ answer

-- the same of such a call: what is claimed here is its number
abbrev pub Replies : {Answer : Type 0} (rows : List Row) (number : Answer → ℕ) (Contract : Answer → Type 0) → Type 0
Replies rows number Contract = Answers {Memory = Unit} rows number tt (λ after. Contract)

-- the same of a call of the twin: it is lent registers and an output
abbrev pub Steps : {Answer : Type 0} (rows : (size lent line : ℕ) → List Row) (number : Answer → ℕ)
    (Contract : (memory memory_after line out out_after : List ℕ) → Answer → Type 0) → Type 0
Steps rows number Contract =
    (memory line out : List ℕ) → Answers {Memory = List ℕ × List ℕ} (rows (length memory) (length out) (length line)) number (memory, out)
    (λ after. Contract memory after.0 line out after.1)

-- what a call of C's twelve cells has done for cell k + 1, whose register is word k of the registers' bytes, low byte first (m and v are for
-- places past the end, and can be any)
pub record OwnCell (mask bipolar : ℕ) (registers : List ℕ) (microvolts microvolts_after : List ℤ) (volts volts_after : List Float)
    (answers_after : List ℕ) (k : ℕ) : Type 0 where
  -- its answer has the number that is due by its own rows,
  pub by_number : NumberDue (cell_rows mask (suc k) (word_at registers k)) (packed_number (get_or answers_after k 0))
  -- turned away, or not enabled, it has written nothing into its own places,
  pub stays : TurnedAway (packed_number (get_or answers_after k 0)) ⊎ (enabled mask (suc k) ≡ false) → (m : ℤ) (v : Float)
      → (get_or microvolts_after k m ≡ get_or microvolts k m) × (get_or volts_after k v ≡ get_or volts k v)
  -- and all is as C's call of one cell has it
  pub alone : (m : ℤ) (v : Float)
      → CellDone (suc k) mask (word_at registers k) bipolar (get_or microvolts k m) (get_or microvolts_after k m) (get_or volts k v) (get_or volts_after k v) (get_or answers_after k 0)

pub record Demand1 : Type 0 where
  -- the reader and the second call, which refuses nothing (what it hands back: SecondCall.antt); the command writer, and the writing of a line
  pub read : (q : Question) (line out : List ℕ) → Answers (read_rows q line (length out)) number_of out (ReadDone q line out)
  pub register_part : (q : Question) (line : List ℕ) (device : ℕ) → Replies [] (λ part. 0) (Returns (part_of q line device))
  -- why the reader takes a line or turns it away, by the reader's own rows; there is room for the values of 32 devices
  pub explain : (q : Question) (line : List ℕ) → Replies (read_rows q line 32) reason_number (Returns (reason_of q line))
  pub write_command : (q : Question) (out : List ℕ) → Answers (command_rows q (length out)) issued_number out (CommandPut q out)
  pub put_line : (bytes out : List ℕ) → Answers (room (length out) (length (line_of bytes)) ∷ []) put_number out (LinePut bytes out)
  -- a cell; twelve cells, each by its own register
  pub read_cell : (range : Range) (mask c register : ℕ) → Replies (cell_rows mask c register) cell_number (Returns (cell_of range mask c register))
  pub read_cells : (range : Range) (mask : ℕ) (registers : List Register) (cells : List Cell) → Returns (cells_of range mask registers) cells
      → length cells ≡ length registers
  pub each_cell : (range : Range) (mask : ℕ) (registers : List Register) (cells : List Cell) → Returns (cells_of range mask registers) cells
      → (k : ℕ) → k < length registers
      → NumberDue (cell_rows mask (suc k) (get_or registers k (record { 0 = 0 })).0) (cell_number (get_or cells k NotMeasured))
  -- the twin: power-on; a step, TWIN also where its device is not in the chain; a span of devices; a chain
  pub power_on : (n : ℕ) (memory : List ℕ) → Answers (row 15 (NoChain 256 n (length memory)) ∷ []) powered_number memory (PoweredOn n memory)
  pub step : (n device : ℕ) → Steps (twin_rows (λ size. NoChain 256 n size ⊎ (n ≤ device))) stepped_number (StepDone n device)
  pub run_span : (n from to : ℕ) → Steps (twin_rows (NoSpan 256 n from to)) stepped_number (SpanDone n from to)
  pub run_chain : (n : ℕ) → Steps (twin_rows (NoChain 256 n)) stepped_number (ChainDone n)
  -- a job file opened, its entries taken out, and one heard; a certificate printed, FILE for more entries than a job file can have
  pub open_file : (file : List ℕ) → Bytes file → Replies (row 14 (NoJobFile file) ∷ []) opened_number (Returns (opened_of file))
  pub next_entry : (h : Header) (file : List ℕ) (c : Cursor) → Bytes file → Replies (next_rows h (drop c.at file)) next_number (Returns (next_of h file c))
  -- (heard by the reader's own rows, with room for the values of 32 devices, where the bytes begin with an entry that keeps the rules; else FILE)
  pub listen : (h : Header) (e : Entry) (later : List ℕ) (s : Standing) → Fits h.version e → Keeps h e
      → Replies (read_rows (asked h e) e.words 32) (λ (r : Listened). r.number) (Returns (listen_of h (entry_bytes h.version e ++ later) s))
  pub listen_file : (h : Header) (front : List ℕ) (s : Standing) → Bytes front → NoEntry h front
      → Replies (row 14 (NoEntry h front) ∷ []) (λ (r : Listened). r.number) (Returns (listen_of h front s))
  pub print : (version n : ℕ) (numbers : List ℕ) (s : Standing) (text : List ℕ)
      → Answers (row 14 (most_entries < length numbers)
      ∷ room (length text) (length (lines_of version n numbers (λ a. device_line_if s.write a (get_or s.letters a 0)))) ∷ [])
      printed_number text (PrintDone version n numbers s text)
  -- the certificate and the rehearsal, of every file of bytes
  pub certify : (file text : List ℕ) → Bytes file → Answers (certify_rows file (length text)) certified_number text (CertificateDone file text)
  pub rehearse : (file out : List ℕ) → Bytes file → Answers (rehearse_rows file (length out)) rehearsed_number out (RehearsalDone file out)
  -- the C side's calls, over bytes: an odd number of them is as no line at all, and so LENGTH; two are room for a word
  pub read_bytes : (q : Question) (line out : List ℕ) → Answers (read_rows q (line_on line) (length out / 2)) packed_number out (ReadBytesDone q line out)
  pub explain_bytes : (q : Question) (line : List ℕ) → Replies (read_rows q (line_on line) 32) reason_number (Returns (reason_on q line))
  pub explain_packed : (q : Question) (line : List ℕ) → Replies (read_rows q (line_on line) 32) packed_number (Returns (packed_on q line))
  pub pec : (bytes : List ℕ) → Replies [] (λ pec. 0) (Returns (pec_of bytes))
  pub part_bytes : (q : Question) (device : ℕ) (line : List ℕ) → Replies [] (λ part. 0) (Returns (part_in q device line))
  pub command_bytes : (q : Question) (out : List ℕ) → Answers (command_rows q (length out / 2)) packed_number out (CommandBytesDone q out)
  -- a cell's voltage goes into two lent numbers, twelve cells' into two lists, with a third for their answers: QUESTION for a range that is neither 0
  -- nor 1; of twelve cells ROOM, and LENGTH for registers that are not 24 bytes
  pub cell_into : (cell enabled register bipolar : ℕ) (microvolts : ℤ) (volts : Float)
      → Answers {Memory = ℤ × Float} (row 1 (2 ≤ bipolar) ∷ cell_rows enabled cell register) packed_number (microvolts, volts)
      (λ after. CellDone cell enabled register bipolar microvolts after.0 volts after.1)
  pub cells_into : (enabled bipolar : ℕ) (registers : List ℕ) (microvolts : List ℤ) (volts : List Float) (answers : List ℕ)
      → Answers {Memory = List ℤ × List Float × List ℕ}
      (row 1 (2 ≤ bipolar) ∷ row 2 ((length microvolts < 12) ⊎ ((length volts < 12) ⊎ (length answers < 12))) ∷ row 3 (length registers ≡ 24 → ⊥) ∷ [])
      packed_number (microvolts, volts, answers)
      (λ after. CellsDone enabled bipolar registers microvolts after.0 volts after.1 answers after.2)
  -- accepted, that call has answered each of the twelve by its own register
  pub each_cell_into : (mask bipolar : ℕ) (registers : List ℕ) (microvolts microvolts_after : List ℤ) (volts volts_after : List Float)
      (answers answers_after : List ℕ) (r : ℕ) → CellsDone mask bipolar registers microvolts microvolts_after volts volts_after answers answers_after r
      → packed_number r ≡ 0 → (k : ℕ) → k < 12 → OwnCell mask bipolar registers microvolts microvolts_after volts volts_after answers_after k
  pub power_on_bytes : (n : ℕ) (memory : List ℕ) → Answers (row 15 (NoChain 512 n (length memory)) ∷ []) packed_number memory (PowerBytesDone n memory)
  pub step_bytes : (n device : ℕ) → Steps (twin_bytes_rows (λ size. NoChain 512 n size ⊎ (n ≤ device))) packed_number (StepBytesDone n device)
  pub run_bytes : (n : ℕ) → Steps (twin_bytes_rows (NoChain 512 n)) packed_number (RunBytesDone n)
  pub certificate_bytes : (file text : List ℕ) → Bytes file
      → Answers (certify_rows file (length text)) packed_number text (CertificateBytesDone file text)
