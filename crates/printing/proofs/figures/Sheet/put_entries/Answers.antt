-- `put_entries` meets its contract: the loop keeps the lines of the entries so far laid from the first place on.
use mathlib.Core.Path.{◌≡◌, subst}
use Prim.Native.Nat.{ℕ}
use native.Mathlib.Omega.{arith}
use lib.ListN.{length}
use Rattle.printing.specs.Text.{first_lines}
use Rattle.printing.specs.Print.{Laid}
use Rattle.printing.proofs.Laying.{laid_nothing, laid_line}
use Rattle.printing.proofs.Lengths.{entry_at, entries_most}
use Rattle.printing.proofs.figures.Sheet.put_entries.Goals as goal

pub loop-k-init : goal.loop-k-init
unfolding first_lines
loop-k-init c = laid_nothing _

pub put_entry-requires : goal.put_entry-requires
put_entry-requires c =
    let now = c.loop-k in
    omega (arith, now.invariant.stored.up, entries_most c.args.numbers.now now.k)

pub loop-k-preserved : goal.loop-k-preserved
loop-k-preserved c =
    let now = c.loop-k in
    laid_line (entry_at c.args.numbers.now) now.k now.invariant c.put_entry.ensures

pub returns : goal.returns
returns c =
    let now = c.loop-k in
    let a = c.args in
    let all : now.k ≡ length a.numbers.now = omega arith in
    subst (λ (k : ℕ). Laid a.self.now (first_lines (entry_at a.numbers.now) k) now.self) all now.invariant
