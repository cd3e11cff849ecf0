-- `print_told` meets its contract: the numbers at the front and the letters are those of all entries.
use mathlib.Core.Path.{subst}
use mathlib.Core.List.{List}
use Prim.Native.Nat.{ℕ}
use native.Mathlib.Omega.{arith}
use lib.ListN.{length-take}
use Rattle.letters.specs.declared.Standing.{Standing}
use Rattle.printing.specs.Print.{PrintDone}
use Rattle.certificate.specs.Certificate.{heard_in, numbers_of}
use Rattle.certificate.proofs.print_told.Goals as goal

pub slice_bounds-print-end : goal.slice_bounds-print-end
slice_bounds-print-end c = simp length-take (omega (arith, c.tell-told.ensures.few))

pub returns : goal.returns
returns c =
    let a = c.args in
    let told = c.tell-told.ensures in
    let text = a.text.now in
    let after = c.print.new.text in
    subst (λ (s : Standing). PrintDone a.job.header.version a.job.header.n (numbers_of (heard_in a.job.file.now)) s text after c.print.result) told.standing
    (subst (λ (numbers : List ℕ). PrintDone a.job.header.version a.job.header.n numbers c.tell-told.result.standing text after c.print.result) told.numbers c.print.ensures)
