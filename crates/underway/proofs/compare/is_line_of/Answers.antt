-- `is_line_of` meets its contract: the loop keeps that each byte passed stands at its place, and the last word decides.
use Rattle.std.proofs.Common.{◌≡◌, length, sym, ◌∙◌, arith}
use Rattle.underway.proofs.Compared.{other_length, other_start, other_byte, all_but_last}
use Rattle.underway.proofs.compare.is_line_of.Goals as goal
use Rattle.underway.proofs.compare.is_line_of.Goals.{then-line-lt2-via-then-line-lt2, then-line-lt2-via-else-line-lt2+then-line-bytes, then-line-lt2-via-else-line-lt2+else-line-bytes+then-line-ne-PREAMBLE}

pub returns-then-line-lt2 : goal.returns-then-line-lt2
returns-then-line-lt2 c =
    let a = c.args in
    elim c.then-line-lt2.branch [
      | then-line-lt2-via-then-line-lt2 w ↦ sym (other_length a.line.now a.bytes.now (λ e. absurd (omega arith)))
      | then-line-lt2-via-else-line-lt2+then-line-bytes w ↦ sym (other_length a.line.now a.bytes.now (λ e. w.if-line-bytes.true (omega arith)))
      | then-line-lt2-via-else-line-lt2+else-line-bytes+then-line-ne-PREAMBLE w ↦ sym (other_start a.line.now a.bytes.now w.if-line-ne-PREAMBLE.true)
    ]

pub returns-then-not-is_byte : goal.returns-then-not-is_byte
returns-then-not-is_byte c =
    let a = c.args in
    sym (other_byte a.line.now a.bytes.now c.loop-i.i c.loop-i-test.true (sym c.is_byte.ensures ∙ c.if-not-is_byte.true))

pub returns : goal.returns
returns c =
    let a = c.args in
    let all : c.loop-i.i ≡ length a.bytes.now = omega arith in
    all_but_last a.line.now a.bytes.now (omega arith) c.if-line-ne-PREAMBLE.false (λ j h. c.loop-i.invariant j (omega arith))
