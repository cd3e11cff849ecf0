-- `cells_by` meets its contract: each test is one of the number's, and what is given cell by cell is what the twelve cells give.
use mathlib.Core.Path.{ap, ◌∙◌}
use mathlib.Core.List.{List}
use Rattle.cells.specs.Cell.{cells_of}
use Rattle.cells.specs.declared.Cell.{Cell}
use Rattle.c_cells.specs.CellBytes.{microvolts_or, volts_or}
use Rattle.c_cells.specs.CellsBytes.{registers_of, room_number, packed_or, by_cell}
use Rattle.c_cells.proofs.Numbered.{turned_away, all_given, short_microvolts, short_volts, short_answers, other_length, room_and_length}
use Rattle.c_cells.proofs.cells_by.Goals as goal

pub returns-then-microvolts-lt12 : goal.returns-then-microvolts-lt12
returns-then-microvolts-lt12 c =
    let a = c.args in
    turned_away (room_number a.registers.now a.microvolts.now a.volts.now a.answers.now) (cells_of a.range a.enabled (registers_of a.registers.now))
    a.microvolts.now a.volts.now a.answers.now 1
    (short_microvolts a.registers.now a.microvolts.now a.volts.now a.answers.now c.if-microvolts-lt12.true)

pub returns-then-volts-lt12 : goal.returns-then-volts-lt12
returns-then-volts-lt12 c =
    let a = c.args in
    turned_away (room_number a.registers.now a.microvolts.now a.volts.now a.answers.now) (cells_of a.range a.enabled (registers_of a.registers.now))
    a.microvolts.now a.volts.now a.answers.now 1
    (short_volts a.registers.now a.microvolts.now a.volts.now a.answers.now c.if-microvolts-lt12.false c.if-volts-lt12.true)

pub returns-then-answers-lt12 : goal.returns-then-answers-lt12
returns-then-answers-lt12 c =
    let a = c.args in
    turned_away (room_number a.registers.now a.microvolts.now a.volts.now a.answers.now) (cells_of a.range a.enabled (registers_of a.registers.now))
    a.microvolts.now a.volts.now a.answers.now 1
    (short_answers a.registers.now a.microvolts.now a.volts.now a.answers.now c.if-microvolts-lt12.false c.if-volts-lt12.false c.if-answers-lt12.true)

pub returns-then-registers-ne24 : goal.returns-then-registers-ne24
returns-then-registers-ne24 c =
    let a = c.args in
    turned_away (room_number a.registers.now a.microvolts.now a.volts.now a.answers.now) (cells_of a.range a.enabled (registers_of a.registers.now))
    a.microvolts.now a.volts.now a.answers.now 2
    (other_length a.registers.now a.microvolts.now a.volts.now a.answers.now c.if-microvolts-lt12.false c.if-volts-lt12.false c.if-answers-lt12.false c.if-registers-ne24.true)

pub returns : goal.returns
returns c =
    let a = c.args in
    let cells = c.read_cells-cells.ensures ∙ ap (cells_of a.range a.enabled) c.registers_in.ensures in
    all_given (room_number a.registers.now a.microvolts.now a.volts.now a.answers.now) (cells_of a.range a.enabled (registers_of a.registers.now))
    a.microvolts.now a.volts.now a.answers.now _ _ _
    (room_and_length a.registers.now a.microvolts.now a.volts.now a.answers.now c.if-microvolts-lt12.false c.if-volts-lt12.false c.if-answers-lt12.false c.if-registers-ne24.false)
    (c.give_all.ensures.0 ∙ ap (λ (l : List Cell). by_cell microvolts_or l a.microvolts.now) cells)
    (c.give_all.ensures.1 ∙ ap (λ (l : List Cell). by_cell volts_or l a.volts.now) cells)
    (c.give_all.ensures.2 ∙ ap (λ (l : List Cell). by_cell packed_or l a.answers.now) cells)
