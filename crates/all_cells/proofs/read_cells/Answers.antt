-- `read_cells` meets its contract: each cell is read by its own register, and there are twelve of both.
use mathlib.Core.Path.{◌≡◌, sym, ap, ◌∙◌}
use Rattle.std.proofs.Common.{rules, ℕ, get_or, length, ◌+◌}
use Rattle.std.proofs.lemmas.List.{ext_get_or}
use native.Mathlib.Omega.{arith}
use Rattle.cells.specs.Cell.{cell_of, cells_of}
use Rattle.cells.specs.declared.Cell.TheVariants.{NotMeasured}
use Rattle.cells.specs.declared.Register.{Register}
use Rattle.cells.proofs.EachRegister.{cells_number_lem, cell_at}
use Rattle.all_cells.proofs.FromFn.{element}
use Rattle.all_cells.proofs.read_cells.Goals as goal

pub returns : goal.returns
unfolding cells_of
returns c =
    let a = c.args in
    let nothing : Register = record { 0 = 0 } in
    let twelve : length a.registers ≡ 12 = omega (arith, c.well_formed) in
    let many = cells_number_lem a.range a.mask 1 a.registers in
    ext_get_or NotMeasured c.from_fn.result (cells_of a.range a.mask a.registers) (c.from_fn.ensures.items.long ∙ sym (many ∙ twelve)) (λ k lt.
    element _ (a.range, a.mask, a.registers) (λ i. cell_of a.range a.mask (i + 1) (get_or a.registers i nothing).0)
    (λ i y q called. let m = called.met in ((λ j. (m.1.0 j, m.1.1 j, m.1.2 j)), search (rules, m.0)))
    c.from_fn.result 12 c.from_fn.ensures.items k NotMeasured (omega (arith, lt, c.from_fn.ensures.items.long))
    ∙ (let on : k + 1 ≡ 1 + k = omega arith in
    ap (λ (n : ℕ). cell_of a.range a.mask n (get_or a.registers k nothing).0) on
    ∙ sym (cell_at a.range a.mask 1 a.registers k NotMeasured nothing (omega (arith, lt, c.from_fn.ensures.items.long, twelve)))))
