-- `take_line` meets its contract: an odd number of bytes, or too many, leaves all as it was.
use Rattle.packing.proofs.Taken.{odd_not_taken, long_not_taken, line_taken}
use Rattle.packing.proofs.take_line.Goals as goal

pub returns-then-bytes-ne0 : goal.returns-then-bytes-ne0
returns-then-bytes-ne0 c =
    let a = c.args in
    odd_not_taken a.bytes.now a.words.now c.if-bytes-ne0.true

pub returns-then-words-count : goal.returns-then-words-count
returns-then-words-count c =
    let a = c.args in
    long_not_taken a.bytes.now a.words.now c.if-bytes-ne0.false c.if-words-count.true

pub returns : goal.returns
returns c =
    let a = c.args in
    line_taken a.bytes.now a.words.now _ c.if-bytes-ne0.false c.if-words-count.false c.unpack.ensures
