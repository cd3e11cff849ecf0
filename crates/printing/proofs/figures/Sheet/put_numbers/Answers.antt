-- `put_numbers` meets its contract: the mark, the two numbers with a space between them, and the line feed, one behind the other.
use Rattle.printing.proofs.Laying.{laid_then}
use Rattle.printing.proofs.figures.Sheet.put_numbers.Goals as goal

pub returns : goal.returns
returns c =
    laid_then c.put_all.ensures
    (laid_then c.put_number.ensures (laid_then c.put.ensures (laid_then c.put_number-2.ensures c.put-2.ensures)))
