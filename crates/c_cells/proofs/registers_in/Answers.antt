-- `registers_in` meets its contract: each register is two of the bytes, and there are twelve.
use mathlib.Core.Path.{◌≡◌, sym, ap, ◌∙◌}
use Rattle.std.proofs.Common.{rules, length}
use Rattle.std.proofs.lemmas.List.{ext_get_or}
use native.Mathlib.Omega.{arith}
use Rattle.packing.specs.Words.{words_of, word_at}
use Rattle.packing.proofs.Back.{length_words, word_of}
use Rattle.all_cells.proofs.FromFn.{element}
use Rattle.c_cells.specs.CellsBytes.{register, registers_of}
use Rattle.c_cells.proofs.EachCell.{registers_number, register_at}
use Rattle.c_cells.proofs.registers_in.Goals as goal

pub returns : goal.returns
unfolding registers_of
returns c =
    let b = c.args.bytes.now in
    let long = c.from_fn.ensures.items.long in
    let twelve : length (registers_of b) ≡ 12 = registers_number (words_of b) ∙ omega (arith, length_words b, c.requires) in
    ext_get_or (register 0) c.from_fn.result (registers_of b) (long ∙ sym twelve) (λ k lt.
    element _ (record { 0 = c.args.bytes }) (λ i. register (word_at b i))
    (λ i y q called. let m = called.met in ((λ j. record { 0 = m.1 j }), search (rules, m.0)))
    c.from_fn.result 12 c.from_fn.ensures.items k (register 0) (omega (arith, lt, long))
    ∙ ap register (sym (register_at (words_of b) k (register 0) (omega (arith, lt, long, length_words b, c.requires))
    ∙ word_of b k (omega (arith, lt, long, c.requires)))))
