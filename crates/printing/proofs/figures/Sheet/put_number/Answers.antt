-- `put_number` meets its contract: four figures, or fewer, and the last one.
use Rattle.printing.specs.Text.{decimal}
use Rattle.printing.proofs.Laying.{laid_then}
use Rattle.printing.proofs.figures.Sheet.put_number.Goals as goal

pub returns : goal.returns
unfolding decimal
returns c =
    laid_then c.put_figure.ensures
    (laid_then c.put_figure-2.ensures (laid_then c.put_figure-3.ensures (laid_then c.put_figure-4.ensures c.put.ensures)))
