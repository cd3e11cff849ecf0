-- Demand 1 is met: a contract names what the call answers and what it leaves, so that these two are the one answer and the one memory; its number
-- is the one due, law by law; and what is turned away has written nothing.
use mathlib.Core.Path.{◌≡◌, refl, sym, ap, ◌∙◌, subst}
use mathlib.Core.Bool.{Bool, true, false, cond, ◌&&◌}
use mathlib.Core.List.{List, [], ◌∷◌}
use mathlib.Core.Logic.{◌⊎◌}
use Prim.Native.Nat.{ℕ, suc, ◌+◌, ◌/◌, ◌%◌, ◌≤◌, ◌<◌}
use native.Mathlib.Omega.{arith}
use lib.Dec.{leb, ltb, lit<}
use lib.ListN.{length, get_or}
use Rattle.lines.specs.Line.{line_of}
use Rattle.lines.specs.Write.{at_front}
use Rattle.lines.proofs.LeftBy.{left_as_it_was}
use Rattle.packing.specs.Words.{line_on}
use Rattle.writing.specs.PutLine.{no_room, put_of, out_of, put_number, LinePut}
use Rattle.std.specs.Prelude.{Result, Ok, Err}
use Rattle.writing.specs.declared.NoRoom.{NoRoom}
use Rattle.questions.specs.declared.question.Question.{Question}
use Rattle.readings.specs.Packed.{packed_reading}
use Rattle.commands.specs.Command.{issued_of, issued_number}
use Rattle.commands.specs.declared.CommandRefusal.{CommandRefusal}
use Rattle.commands.specs.declared.CommandRefusal.TheVariants as refused
use Rattle.cells.specs.Cell.{cell_of, cells_from, cells_of, cell_number}
use Rattle.cells.specs.declared.Cell.{Cell}
use Rattle.cells.specs.declared.Cell.TheVariants.{NotMeasured}
use Rattle.cells.specs.declared.Range.{Range}
use Rattle.cells.specs.declared.Register.{Register}
use Rattle.c_reader.specs.ReadBytes.{reading_on}
use Rattle.c_commands.specs.CommandBytes.{packed_issued}
use Rattle.c_twin.specs.TwinBytes.{chain_in, power_number, bytes_number}
use Rattle.c_cells.specs.CellsBytes.{cells_number}
use Rattle.cells.proofs.EachRegister.{cells_number_lem, cell_at}
use Rattle.promises.specs.ByNumber.{Row, row, NumberDue, packed_number}
use Rattle.promises.specs.Rows.{read_rows}
use Rattle.promises.specs.CallRows.{room, command_rows, NoChain, twin_bytes_rows, cell_rows}
use Rattle.promises.specs.Demand1.{TurnedAway, Answers, Demand1}
use Rattle.promises.proofs.ByNumber.{Small, below_256}
use Rattle.promises.proofs.Rows.{by_number}
use Rattle.promises.proofs.CallsByNumber.{enough_room, short_of_room, command_due, powered_due, powered_bytes_due, chain_due, step_due, span_due}
use Rattle.promises.proofs.CallsByNumber.{step_bytes_due, run_bytes_due, cell_due, cell_into_due, cells_rows, cells_into_due}
use Rattle.promises.proofs.JobNumbers.{opened_by_number, next_by_number, listened_by_number, nothing_by_number, printed_by_number}
use Rattle.promises.proofs.JobNumbers.{certified_by_number, certificate_bytes_by_number, rehearsed_by_number}
use Rattle.promises.proofs.RefusedWritesNothing.{refused_read, refused_command, refused_power_on, refused_step}
use Rattle.promises.proofs.RefusedWritesNothing.{refused_print, refused_certificate, refused_rehearsal}
use Rattle.promises.proofs.RefusedBytes.{refused_read_bytes, refused_command_bytes, refused_cell, refused_cells}
use Rattle.promises.proofs.RefusedBytes.{refused_power_bytes, refused_steps, refused_certificate_bytes}
use Rattle.promises.proofs.CSideLine.{number_packed}
use Rattle.promises.proofs.WhyNumbers.{explain_due, explain_bytes_due, explain_packed_due}
use Rattle.promises.proofs.OwnCell.{own_cell}

-- a contract that names the answer and what is left has one answer
one : {Answer Memory : Type 0} {rows : List Row} {number : Answer → ℕ} {before : Memory} {Contract : Memory → Answer → Type 0} {answer : Answer} {leaves : Memory}
    → Contract leaves answer → ((after : Memory) (r : Answer) → Contract after r → (r ≡ answer) × (after ≡ leaves)) → NumberDue rows (number answer)
    → ((after : Memory) (r : Answer) → Contract after r → TurnedAway (number r) → after ≡ before) → Answers rows number before Contract
one {answer = answer} {leaves = leaves} meets only due refused =
    record { answer = answer; leaves = leaves; meets = meets; only = only; by_number = due; refused = refused }

-- two or three lent memories, each the same
both : {A B : Type 0} {a a' : A} {b b' : B} → (a ≡ a') × (b ≡ b') → ◌≡◌ {A = A × B} (a, b) (a', b')
both same = λ i. (same.0 i, same.1 i)

three : {A B C : Type 0} {a a' : A} {b b' : B} {c c' : C} → (a ≡ a') × (b ≡ b') × (c ≡ c') → ◌≡◌ {A = A × B × C} (a, b, c) (a', b', c')
three same = λ i. (same.0 i, same.1 i, same.2 i)

nothing : (u : Unit {0}) → u ≡ tt
nothing tt = refl

-- ---- numbers due that stand in no other file

put_due : (bytes out : List ℕ) → NumberDue (room (length out) (length (line_of bytes)) ∷ []) (put_number (put_of bytes out))
unfolding put_of
put_due bytes out = by_test (leb (length (line_of bytes)) (length out)) refl
  where
    by_test : (fits : Bool) → leb (length (line_of bytes)) (length out) ≡ fits
        → NumberDue (room (length out) (length (line_of bytes)) ∷ []) (put_number (cond fits (Ok (length (line_of bytes))) (Err no_room)))
    by_test true fits = enough_room (length out) (length (line_of bytes)) fits
    by_test false short = short_of_room (length out) (length (line_of bytes)) short

refused_put : (bytes out after : List ℕ) (r : Result ℕ NoRoom) → LinePut bytes out after r → TurnedAway (put_number r) → after ≡ out
unfolding out_of
refused_put bytes out after r done away =
    done.leaves ∙ left_as_it_was (at_front (line_of bytes) out) out _ (subst (λ (p : Result ℕ NoRoom). TurnedAway (put_number p)) done.says away)

-- the twelve, each by its own register
each_due : (range : Range) (mask : ℕ) (registers : List Register) (k : ℕ) → k < length registers
    → NumberDue (cell_rows mask (suc k) (get_or registers k (record { 0 = 0 })).0) (cell_number (get_or (cells_from range mask 1 registers) k NotMeasured))
each_due range mask registers k below =
    let register = (get_or registers k (record { 0 = 0 })).0 in
    let next : 1 + k ≡ suc k = omega arith in
    subst (λ (x : Cell). NumberDue (cell_rows mask (suc k) register) (cell_number x))
    (sym (cell_at range mask 1 registers k NotMeasured (record { 0 = 0 }) below ∙ ap (λ (c : ℕ). cell_of range mask c register) next))
    (cell_due range mask (suc k) register)

-- packed, the number stands in the lowest eight bits
read_bytes_due : (q : Question) (line out : List ℕ)
    → NumberDue (read_rows q (line_on line) (length out / 2)) (packed_number (packed_reading (reading_on q line out)))
unfolding reading_on
read_bytes_due q line out =
    subst (NumberDue (read_rows q (line_on line) (length out / 2))) (sym (number_packed (reading_on q line out)))
    (by_number q (line_on line) (length out / 2))

command_bytes_due : (q : Question) (lent : ℕ) → NumberDue (command_rows q lent) (packed_number (packed_issued (issued_of q lent)))
command_bytes_due q lent = subst (NumberDue (command_rows q lent)) (sym (own_number (issued_of q lent))) (command_due q lent)
  where
    own_number : (i : Result ℕ CommandRefusal) → packed_number (packed_issued i) ≡ issued_number i
    own_number (Ok n) = omega arith
    own_number (Err refused.Question) = refl
    own_number (Err refused.Room) = refl

-- a small number is its own lowest eight bits
small_due : (rows : List Row) (number : ℕ) → Small rows → NumberDue rows number → NumberDue rows (packed_number number)
small_due rows number small due =
    let is : number < 256 = below_256 rows number small due in
    let same : number ≡ number % 256 = omega arith in subst (NumberDue rows) same due

pub demand_1 : Demand1
unfolding cells_of
demand_1 = record {
  read = λ q line out.
      one (record { says = refl; leaves = refl }) (λ after r done. (done.says, done.leaves)) (by_number q line (length out)) (refused_read q line out);
  register_part = λ q line device. one refl (λ after r done. (done, nothing after)) refl (λ after r done away. nothing after);
  explain = λ q line. one refl (λ after r done. (done, nothing after)) (explain_due q line) (λ after r done away. nothing after);
  write_command = λ q out.
      one (record { says = refl; leaves = refl }) (λ after r done. (done.says, done.leaves)) (command_due q (length out)) (refused_command q out);
  put_line = λ bytes out.
      one (record { says = refl; leaves = refl }) (λ after r done. (done.says, done.leaves)) (put_due bytes out) (refused_put bytes out);
  read_cell = λ range mask c register.
      one refl (λ after r done. (done, nothing after)) (cell_due range mask c register) (λ after r done away. nothing after);
  read_cells = λ range mask registers cells done. ap length done ∙ cells_number_lem range mask 1 registers;
  each_cell = λ range mask registers cells done k below.
      subst (λ (all : List Cell). NumberDue (cell_rows mask (suc k) (get_or registers k (record { 0 = 0 })).0) (cell_number (get_or all k NotMeasured)))
      (sym done) (each_due range mask registers k below);
  power_on = λ n memory.
      one (record { says = refl; leaves = refl }) (λ after r done. (done.says, done.leaves)) (powered_due n memory) (refused_power_on n memory);
  step = λ n device memory line out.
      one (record { says = refl; remembers = refl; leaves = refl }) (λ after r done. (done.says, both (done.remembers, done.leaves)))
      (step_due n device memory line out) (λ after r done away. both (refused_step _ _ _ out after.1 after.0 r done away));
  run_span = λ n from to memory line out.
      one (record { says = refl; remembers = refl; leaves = refl }) (λ after r done. (done.says, both (done.remembers, done.leaves)))
      (span_due n from to memory line out) (λ after r done away. both (refused_step _ _ _ out after.1 after.0 r done away));
  run_chain = λ n memory line out.
      one (record { says = refl; remembers = refl; leaves = refl }) (λ after r done. (done.says, both (done.remembers, done.leaves)))
      (chain_due n memory line out) (λ after r done away. both (refused_step _ _ _ out after.1 after.0 r done away));
  open_file = λ file small.
      one refl (λ after r done. (done, nothing after)) (opened_by_number file small) (λ after r done away. nothing after);
  next_entry = λ h file c small.
      one refl (λ after r done. (done, nothing after)) (next_by_number h file c small) (λ after r done away. nothing after);
  listen = λ h e later s fits rules.
      one refl (λ after r done. (done, nothing after)) (listened_by_number h e later s fits rules) (λ after r done away. nothing after);
  listen_file = λ h front s small none.
      one refl (λ after r done. (done, nothing after)) (nothing_by_number h front s small none) (λ after r done away. nothing after);
  print = λ version n numbers s text.
      one (record { says = refl; leaves = refl }) (λ after r done. (done.says, done.leaves)) (printed_by_number version n numbers s text)
      (refused_print version n numbers s text);
  certify = λ file text small.
      one (record { says = refl; leaves = refl }) (λ after r done. (done.says, done.leaves)) (certified_by_number file text small)
      (refused_certificate file text);
  rehearse = λ file out small.
      one (record { says = refl; leaves = refl }) (λ after r done. (done.says, done.leaves)) (rehearsed_by_number file out small)
      (refused_rehearsal file out);
  read_bytes = λ q line out.
      one (record { says = refl; leaves = refl }) (λ after r done. (done.says, done.leaves)) (read_bytes_due q line out) (refused_read_bytes q line out);
  explain_bytes = λ q line. one refl (λ after r done. (done, nothing after)) (explain_bytes_due q line) (λ after r done away. nothing after);
  explain_packed = λ q line. one refl (λ after r done. (done, nothing after)) (explain_packed_due q line) (λ after r done away. nothing after);
  pec = λ bytes. one refl (λ after r done. (done, nothing after)) refl (λ after r done away. nothing after);
  part_bytes = λ q device line. one refl (λ after r done. (done, nothing after)) refl (λ after r done away. nothing after);
  command_bytes = λ q out.
      one (record { says = refl; leaves = refl }) (λ after r done. (done.says, done.leaves)) (command_bytes_due q (length out / 2))
      (refused_command_bytes q out);
  cell_into = λ cell enabled register bipolar microvolts volts.
      one (record { says = refl; microvolts = refl; volts = refl }) (λ after r done. (done.says, both (done.microvolts, done.volts)))
      (cell_into_due cell enabled register bipolar)
      (λ after r done away. both (refused_cell cell enabled register bipolar microvolts after.0 volts after.1 r done away));
  cells_into = λ enabled bipolar registers microvolts volts answers.
      one (record { says = refl; microvolts = refl; volts = refl; answers = refl })
      (λ after r done. (done.says, three (done.microvolts, done.volts, done.answers)))
      (small_due (cells_rows bipolar registers microvolts volts answers)
      (cells_number bipolar registers microvolts volts answers) (lit< tt, (lit< tt, (lit< tt, tt))) (cells_into_due bipolar registers microvolts volts answers))
      (λ after r done away. three (refused_cells enabled bipolar registers microvolts after.0 volts after.1 answers after.2 r done away));
  each_cell_into = own_cell;
  power_on_bytes = λ n memory.
      one (record { says = refl; leaves = refl }) (λ after r done. (done.says, done.leaves))
      (small_due (row 15 (NoChain 512 n (length memory)) ∷ []) (power_number n (length memory)) (lit< tt, tt) (powered_bytes_due n (length memory))) (refused_power_bytes n memory);
  step_bytes = λ n device memory line out.
      one (record { says = refl; remembers = refl; leaves = refl }) (λ after r done. (done.says, both (done.remembers, done.leaves)))
      (small_due (twin_bytes_rows (λ size. NoChain 512 n size ⊎ (n ≤ device)) (length memory) (length out) (length line)) (bytes_number (chain_in n (length memory) && ltb device n) line out)
      (lit< tt, (lit< tt, (lit< tt, tt))) (step_bytes_due n device memory line out))
      (λ after r done away. both (refused_steps _ _ memory after.0 line out after.1 r done away));
  run_bytes = λ n memory line out.
      one (record { says = refl; remembers = refl; leaves = refl }) (λ after r done. (done.says, both (done.remembers, done.leaves)))
      (small_due (twin_bytes_rows (NoChain 512 n) (length memory) (length out) (length line)) (bytes_number (chain_in n (length memory)) line out)
      (lit< tt, (lit< tt, (lit< tt, tt))) (run_bytes_due n memory line out))
      (λ after r done away. both (refused_steps _ _ memory after.0 line out after.1 r done away));
  certificate_bytes = λ file text small.
      one (record { says = refl; leaves = refl }) (λ after r done. (done.says, done.leaves))
      (certificate_bytes_by_number file text _ _ small (record { says = refl; leaves = refl })) (refused_certificate_bytes file text);
}
