-- `put_device` meets its contract: its mark, the number, a space, the device's letter and the line feed, one behind the other.
use Rattle.printing.specs.Text.{device_line}
use Rattle.printing.proofs.Laying.{laid_then}
use Rattle.printing.proofs.figures.Sheet.put_device.Goals as goal

pub returns : goal.returns
unfolding device_line
returns c =
    laid_then c.put_all.ensures
    (laid_then c.put_number.ensures (laid_then c.put.ensures (laid_then c.put-2.ensures c.put-3.ensures)))
