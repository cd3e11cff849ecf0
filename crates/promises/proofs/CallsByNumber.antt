-- Which number is due, call by call: the tests that a definition makes, in their order, are the rows' conditions.
use Rattle.std.specs.Prelude.{Ok, Err}
use mathlib.Core.Path.{◌≡◌, refl, sym}
use mathlib.Core.Bool.{Bool, true, false, cond, ◌&&◌, false≢true}
use mathlib.Core.Logic.{◌⊎◌, inl, inr, ⊎_elim}
use mathlib.Core.List.{List, [], ◌∷◌}
use Prim.Native.Nat.{ℕ, ◌*◌, ◌/◌, ◌%◌, ◌≤◌, ◌<◌}
use native.Mathlib.Omega.{arith}
use lib.Dec.{leb, ltb, eqb}
use lib.IntN.{ℤ}
use lib.Ieee.{Float}
use lib.ListN.{length}
use borrow.Author.Tests.{leb-true, leb-false, ltb-true, ltb-false, eqb-true, eqb-false}
use Rattle.ground.proofs.Test.{and_left, and_right}
use Rattle.questions.specs.Question.{good_question}
use Rattle.questions.specs.declared.question.Question as asked
use Rattle.commands.specs.Command.{command_line, issued_of, issued_number}
use Rattle.std.specs.Prelude.{Ok, Err}
use Rattle.commands.specs.Command as command
use Rattle.registers.specs.Memory.{is_chain, powered_of, powered_number}
use Rattle.twin.specs.Step.{is_span, stepped_of, stepped_number}
use Rattle.twin.specs.declared.step.StepRefusal.TheVariants as step_refusal
use Rattle.cells.specs.Cell.{enabled, cell_of, cell_number}
use Rattle.cells.specs.declared.Cell.{Cell}
use Rattle.cells.specs.declared.Cell.TheVariants as cell
use Rattle.cells.specs.Voltage.{voltage_of}
use Rattle.cells.specs.declared.Range.{Range}
use Rattle.cells.specs.declared.Range.TheVariants.{Unipolar, Bipolar}
use Rattle.cells.specs.declared.CellRefusal.TheVariants as cell_refusal
use Rattle.c_cells.specs.CellBytes.{packed_cell, answer_of}
use Rattle.c_cells.specs.CellsBytes.{room_number, cells_number}
use Rattle.c_twin.specs.TwinBytes.{chain_in, power_number, bytes_number}
use Rattle.promises.specs.ByNumber.{Row, row, NumberDue}
use Rattle.promises.specs.CallRows.{room, command_rows, NoChain, NoSpan, twin_rows, twin_bytes_rows, cell_rows}
use Rattle.promises.proofs.RowsGiven.{never}

-- ---- ROOM, where it is the last row

pub enough_room : (lent written : ℕ) → leb written lent ≡ true → NumberDue (room lent written ∷ []) 0
enough_room lent written fits = inr ((λ less. omega (arith, leb-true written lent fits)), refl)

pub short_of_room : (lent written : ℕ) → leb written lent ≡ false → NumberDue (room lent written ∷ []) 2
short_of_room lent written short = inl (omega (arith, leb-false written lent short), refl)

-- ---- the command writer

pub command_due : (q : asked.Question) (lent : ℕ) → NumberDue (command_rows q lent) (issued_number (issued_of q lent))
unfolding issued_of
command_due q lent = by_tests (good_question q) refl (leb (length (command_line q)) lent) refl
  where
    by_tests : (good : Bool) → good_question q ≡ good → (fits : Bool) → leb (length (command_line q)) lent ≡ fits
        → NumberDue (command_rows q lent) (issued_number (cond good (cond fits (Ok (length (command_line q))) (Err command.room)) (Err command.bad_question)))
    by_tests true good true fits = inr (never good, enough_room lent (length (command_line q)) fits)
    by_tests true good false short = inr (never good, short_of_room lent (length (command_line q)) short)
    by_tests false bad fits e = inl (bad, refl)

-- ---- the twin

module _ (each n size : ℕ) where
  pub is_chain_lem : (leb 1 n && leb n 32 && eqb size (each * n)) ≡ true → NoChain each n size → ⊥
  is_chain_lem e =
      let bounds = and_left (leb 1 n && leb n 32) (eqb size (each * n)) e in
      let all = and_right (leb 1 n && leb n 32) (eqb size (each * n)) e in
      ⊎_elim (λ less. omega (arith, leb-true 1 n (and_left (leb 1 n) (leb n 32) bounds)))
      (⊎_elim (λ more. omega (arith, leb-true n 32 (and_right (leb 1 n) (leb n 32) bounds))) (λ other. other (eqb-true size (each * n) all)))

  pub is_no_chain : (leb 1 n && leb n 32 && eqb size (each * n)) ≡ false → NoChain each n size
  is_no_chain = by_tests (leb 1 n) refl (leb n 32) refl (eqb size (each * n)) refl
    where
      by_tests : (low : Bool) → leb 1 n ≡ low → (high : Bool) → leb n 32 ≡ high → (all : Bool) → eqb size (each * n) ≡ all
          → (low && high && all) ≡ false → NoChain each n size
      by_tests false low high h all a e = inl (omega (arith, leb-false 1 n low))
      by_tests true low false h all a e = inr (inl (omega (arith, leb-false n 32 h)))
      by_tests true low true h false a e = inr (inr (eqb-false size (each * n) a))
      by_tests true low true h true a e = absurd (false≢true (sym e))

  -- or with a device that must be in it
  pub is_in_chain : (device : ℕ) → ((leb 1 n && leb n 32 && eqb size (each * n)) && ltb device n) ≡ true → NoChain each n size ⊎ (n ≤ device) → ⊥
  is_in_chain device fits =
      let chain = leb 1 n && leb n 32 && eqb size (each * n) in
      ⊎_elim (is_chain_lem (and_left chain (ltb device n) fits)) (λ beyond. omega (arith, ltb-true device n (and_right chain (ltb device n) fits)))

  pub is_not_in_chain : (device : ℕ) → ((leb 1 n && leb n 32 && eqb size (each * n)) && ltb device n) ≡ false → NoChain each n size ⊎ (n ≤ device)
  is_not_in_chain device = by_test (leb 1 n && leb n 32 && eqb size (each * n)) refl
    where
      by_test : (t : Bool) → (leb 1 n && leb n 32 && eqb size (each * n)) ≡ t → (t && ltb device n) ≡ false → NoChain each n size ⊎ (n ≤ device)
      by_test true is e = inr (omega (arith, ltb-false device n e))
      by_test false is e = inl (is_no_chain is)

  -- or with devices that must be of it
  pub is_span_in : (from to : ℕ) → ((leb 1 n && leb n 32 && eqb size (each * n)) && leb from to && leb to n) ≡ true
      → NoSpan each n from to size → ⊥
  is_span_in from to fits =
      let chain = leb 1 n && leb n 32 && eqb size (each * n) in
      let begun = and_left (chain && leb from to) (leb to n) fits in
      ⊎_elim (is_chain_lem (and_left chain (leb from to) begun))
      (⊎_elim (λ behind. omega (arith, leb-true from to (and_right chain (leb from to) begun)))
      (λ beyond. omega (arith, leb-true to n (and_right (chain && leb from to) (leb to n) fits))))

  pub is_no_span_in : (from to : ℕ) → ((leb 1 n && leb n 32 && eqb size (each * n)) && leb from to && leb to n) ≡ false
      → NoSpan each n from to size
  is_no_span_in from to = by_tests (leb 1 n && leb n 32 && eqb size (each * n)) refl (leb from to) refl
    where
      by_tests : (t : Bool) → (leb 1 n && leb n 32 && eqb size (each * n)) ≡ t → (begun : Bool) → leb from to ≡ begun
          → (t && begun && leb to n) ≡ false → NoSpan each n from to size
      by_tests false is begun b e = inl (is_no_chain is)
      by_tests true is false b e = inr (inl (omega (arith, leb-false from to b)))
      by_tests true is true b e = inr (inr (omega (arith, leb-false to n e)))

pub powered_due : (n : ℕ) (memory : List ℕ) → NumberDue (row 15 (NoChain 256 n (length memory)) ∷ []) (powered_number (powered_of n memory))
unfolding powered_of
powered_due n memory = by_test (is_chain n (length memory)) refl
  where
    by_test : (fits : Bool) → is_chain n (length memory) ≡ fits
        → NumberDue (row 15 (NoChain 256 n (length memory)) ∷ []) (powered_number (cond fits (Ok tt) (Err (record {}))))
    by_test true fits = inr (is_chain_lem 256 n (length memory) fits, refl)
    by_test false not = inl (is_no_chain 256 n (length memory) not, refl)

pub powered_bytes_due : (n bytes : ℕ) → NumberDue (row 15 (NoChain 512 n bytes) ∷ []) (power_number n bytes)
powered_bytes_due n bytes = by_test (chain_in n bytes) refl
  where
    by_test : (fits : Bool) → chain_in n bytes ≡ fits → NumberDue (row 15 (NoChain 512 n bytes) ∷ []) (cond fits 0 15)
    by_test true fits = inr (is_chain_lem 512 n bytes fits, refl)
    by_test false not = inl (is_no_chain 512 n bytes not, refl)

-- TWIN, then ROOM, whatever TWIN is given for
module _ (given : Type 0) (fits : Bool) (chain : fits ≡ true → given → ⊥) (no_chain : fits ≡ false → given) (line out : List ℕ) where
  stepped_due : NumberDue (row 15 given ∷ room (length out) (length line) ∷ []) (stepped_number (stepped_of fits line out))
  unfolding stepped_of
  stepped_due = by_tests fits refl (leb (length line) (length out)) refl
    where
      by_tests : (t : Bool) → fits ≡ t → (enough : Bool) → leb (length line) (length out) ≡ enough
          → NumberDue (row 15 given ∷ room (length out) (length line) ∷ []) (stepped_number (cond t (cond enough (Ok tt) (Err step_refusal.Room)) (Err step_refusal.Twin)))
      by_tests true is true e = inr (chain is, enough_room (length out) (length line) e)
      by_tests true is false e = inr (chain is, short_of_room (length out) (length line) e)
      by_tests false is enough e = inl (no_chain is, refl)

pub chain_due : (n : ℕ) (memory line out : List ℕ)
    → NumberDue (twin_rows (NoChain 256 n) (length memory) (length out) (length line)) (stepped_number (stepped_of (is_chain n (length memory)) line out))
chain_due n memory line out =
    stepped_due (NoChain 256 n (length memory)) (is_chain n (length memory)) (is_chain_lem 256 n (length memory)) (is_no_chain 256 n (length memory)) line out

pub step_due : (n device : ℕ) (memory line out : List ℕ)
    → NumberDue (twin_rows (λ size. NoChain 256 n size ⊎ (n ≤ device)) (length memory) (length out) (length line))
    (stepped_number (stepped_of (is_chain n (length memory) && ltb device n) line out))
step_due n device memory line out =
    stepped_due (NoChain 256 n (length memory) ⊎ (n ≤ device)) (is_chain n (length memory) && ltb device n)
    (is_in_chain 256 n (length memory) device) (is_not_in_chain 256 n (length memory) device) line out

pub span_due : (n from to : ℕ) (memory line out : List ℕ)
    → NumberDue (twin_rows (NoSpan 256 n from to) (length memory) (length out) (length line))
    (stepped_number (stepped_of (is_span n from to (length memory)) line out))
span_due n from to memory line out =
    stepped_due (NoSpan 256 n from to (length memory)) (is_span n from to (length memory))
    (is_span_in 256 n (length memory) from to) (is_no_span_in 256 n (length memory) from to) line out

-- and over bytes, then LENGTH
module _ (given : ℕ → Type 0) (size : ℕ) (fits : Bool) (chain : fits ≡ true → given size → ⊥) (no_chain : fits ≡ false → given size) (line out : List ℕ) where
  over_bytes_due : NumberDue (twin_bytes_rows given size (length out) (length line)) (bytes_number fits line out)
  unfolding bytes_number
  over_bytes_due = by_tests fits refl (leb (length line / 2) (length out / 2)) refl (eqb (length line % 2) 0) refl
    where
      by_tests : (t : Bool) → fits ≡ t → (enough : Bool) → leb (length line / 2) (length out / 2) ≡ enough → (even : Bool) → eqb (length line % 2) 0 ≡ even
          → NumberDue (twin_bytes_rows given size (length out) (length line)) (cond t (cond enough (cond even 0 3) 2) 15)
      by_tests false is enough e even v = inl (no_chain is, refl)
      by_tests true is false e even v = inr (chain is, inl (omega (arith, leb-false (length line / 2) (length out / 2) e), refl))
      by_tests true is true e true v =
          inr (
            chain is,
            inr ((λ short. omega (arith, leb-true (length line / 2) (length out / 2) e)), inr ((λ odd. odd (eqb-true (length line % 2) 0 v)), refl)),
          )
      by_tests true is true e false v =
          inr (chain is, inr ((λ short. omega (arith, leb-true (length line / 2) (length out / 2) e)), inl (eqb-false (length line % 2) 0 v, refl)))

pub step_bytes_due : (n device : ℕ) (memory line out : List ℕ)
    → NumberDue (twin_bytes_rows (λ size. NoChain 512 n size ⊎ (n ≤ device)) (length memory) (length out) (length line))
    (bytes_number (chain_in n (length memory) && ltb device n) line out)
step_bytes_due n device memory line out =
    over_bytes_due (λ size. NoChain 512 n size ⊎ (n ≤ device)) (length memory) (chain_in n (length memory) && ltb device n)
    (is_in_chain 512 n (length memory) device) (is_not_in_chain 512 n (length memory) device) line out

pub run_bytes_due : (n : ℕ) (memory line out : List ℕ)
    → NumberDue (twin_bytes_rows (NoChain 512 n) (length memory) (length out) (length line)) (bytes_number (chain_in n (length memory)) line out)
run_bytes_due n memory line out =
    over_bytes_due (NoChain 512 n) (length memory) (chain_in n (length memory)) (is_chain_lem 512 n (length memory)) (is_no_chain 512 n (length memory)) line out

-- ---- cells

pub cell_due : (range : Range) (mask c register : ℕ) → NumberDue (cell_rows mask c register) (cell_number (cell_of range mask c register))
unfolding cell_of
cell_due range mask c register = by_tests (leb 1 c) refl (leb c 12) refl (enabled mask c) refl (eqb (register % 4) 0) refl
  where
    inside : leb 1 c ≡ true → leb c 12 ≡ true → (c < 1) ⊎ (12 < c) → ⊥
    inside l h = ⊎_elim (λ less. omega (arith, leb-true 1 c l)) (λ more. omega (arith, leb-true c 12 h))

    by_tests : (low : Bool) → leb 1 c ≡ low → (high : Bool) → leb c 12 ≡ high → (on : Bool) → enabled mask c ≡ on
        → (clear : Bool) → eqb (register % 4) 0 ≡ clear
        → NumberDue (cell_rows mask c register)
        (cell_number (cond (low && high)
        (cond on (cond clear (cell.Measured (voltage_of range (register / 4))) (cell.Refused cell_refusal.LowBits)) cell.NotMeasured)
        (cell.Refused cell_refusal.Channel)))
    by_tests false l high h on o clear k = inl (inl (omega (arith, leb-false 1 c l)), refl)
    by_tests true l false h on o clear k = inl (inr (omega (arith, leb-false c 12 h)), refl)
    by_tests true l true h false o clear k = inr (inside l h, inr ((λ low. never low.0 o), refl))
    by_tests true l true h true o true k = inr (inside l h, inr ((λ low. low.1 (eqb-true (register % 4) 0 k)), refl))
    by_tests true l true h true o false k = inr (inside l h, inl ((o, eqb-false (register % 4) 0 k), refl))

-- over bytes the number stands in the lowest eight bits
packed_number : (x : Cell) → packed_cell x % 256 ≡ cell_number x
packed_number (cell.Measured v) = refl
packed_number cell.NotMeasured = refl
packed_number (cell.Refused cell_refusal.Channel) = refl
packed_number (cell.Refused cell_refusal.LowBits) = refl

pub cell_into_due : (c mask register bipolar : ℕ) → NumberDue (row 1 (2 ≤ bipolar) ∷ cell_rows mask c register) (answer_of c mask register bipolar % 256)
unfolding answer_of
cell_into_due c mask register bipolar = by_tests (eqb bipolar 0) refl (eqb bipolar 1) refl
  where
    of : (range : Range) → (2 ≤ bipolar → ⊥) → NumberDue (row 1 (2 ≤ bipolar) ∷ cell_rows mask c register) (packed_cell (cell_of range mask c register) % 256)
    of range small = inr (small, rw (packed_number (cell_of range mask c register)) (cell_due range mask c register))

    by_tests : (uni : Bool) → eqb bipolar 0 ≡ uni → (bi : Bool) → eqb bipolar 1 ≡ bi
        → NumberDue (row 1 (2 ≤ bipolar) ∷ cell_rows mask c register)
        (cond uni (packed_cell (cell_of Unipolar mask c register)) (cond bi (packed_cell (cell_of Bipolar mask c register)) 1) % 256)
    by_tests true u bi b = of Unipolar (λ many. omega (arith, eqb-true bipolar 0 u))
    by_tests false u true b = of Bipolar (λ many. omega (arith, eqb-true bipolar 1 b))
    by_tests false u false b =
        let not_0 : bipolar ≡ 0 → ⊥ = eqb-false bipolar 0 u in
        let not_1 : bipolar ≡ 1 → ⊥ = eqb-false bipolar 1 b in
        inl (omega (arith, not_0, not_1), refl)

module _ (bipolar : ℕ) (registers : List ℕ) (microvolts : List ℤ) (volts : List Float) (answers : List ℕ) where
  abbrev pub cells_rows : List Row
  cells_rows =
      row 1 (2 ≤ bipolar) ∷ row 2 ((length microvolts < 12) ⊎ ((length volts < 12) ⊎ (length answers < 12))) ∷ row 3 (length registers ≡ 24 → ⊥) ∷ []

  pub cells_into_due : NumberDue cells_rows (cells_number bipolar registers microvolts volts answers)
  unfolding cells_number room_number
  cells_into_due =
      by_tests (eqb bipolar 0) refl (eqb bipolar 1) refl (leb 12 (length microvolts)) refl (leb 12 (length volts)) refl (leb 12 (length answers)) refl
      (eqb (length registers) 24) refl
    where
      named : (2 ≤ bipolar → ⊥) → (m : Bool) → leb 12 (length microvolts) ≡ m → (v : Bool) → leb 12 (length volts) ≡ v
          → (a : Bool) → leb 12 (length answers) ≡ a → (all : Bool) → eqb (length registers) 24 ≡ all
          → NumberDue cells_rows (cond (m && v && a) (cond all 0 3) 2)
      named small false m v w a b all l = inr (small, inl (inl (omega (arith, leb-false 12 (length microvolts) m)), refl))
      named small true m false v a b all l = inr (small, inl (inr (inl (omega (arith, leb-false 12 (length volts) v))), refl))
      named small true m true v false a all l = inr (small, inl (inr (inr (omega (arith, leb-false 12 (length answers) a))), refl))
      named small true m true v true a all l = inr (small, inr (enough, by_length all l))
        where
          enough : (length microvolts < 12) ⊎ ((length volts < 12) ⊎ (length answers < 12)) → ⊥
          enough =
              ⊎_elim (λ less. omega (arith, leb-true 12 (length microvolts) m))
              (⊎_elim (λ less. omega (arith, leb-true 12 (length volts) v)) (λ less. omega (arith, leb-true 12 (length answers) a)))

          by_length : (all : Bool) → eqb (length registers) 24 ≡ all → NumberDue (row 3 (length registers ≡ 24 → ⊥) ∷ []) (cond all 0 3)
          by_length true l = inr ((λ other. other (eqb-true (length registers) 24 l)), refl)
          by_length false l = inl (eqb-false (length registers) 24 l, refl)

      by_tests : (uni : Bool) → eqb bipolar 0 ≡ uni → (bi : Bool) → eqb bipolar 1 ≡ bi → (m : Bool) → leb 12 (length microvolts) ≡ m
          → (v : Bool) → leb 12 (length volts) ≡ v → (a : Bool) → leb 12 (length answers) ≡ a → (all : Bool) → eqb (length registers) 24 ≡ all
          → NumberDue cells_rows
          (cond uni (cond (m && v && a) (cond all 0 3) 2) (cond bi (cond (m && v && a) (cond all 0 3) 2) 1))
      by_tests true u bi b m e v f a g all l = named (λ many. omega (arith, eqb-true bipolar 0 u)) m e v f a g all l
      by_tests false u true b m e v f a g all l = named (λ many. omega (arith, eqb-true bipolar 1 b)) m e v f a g all l
      by_tests false u false b m e v f a g all l =
          let not_0 : bipolar ≡ 0 → ⊥ = eqb-false bipolar 0 u in
          let not_1 : bipolar ≡ 1 → ⊥ = eqb-false bipolar 1 b in
          inl (omega (arith, not_0, not_1), refl)
