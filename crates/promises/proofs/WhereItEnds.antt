-- Where demand 3 ends: the two damages are computed for every device count, and the words that document 01 names for 15.
use mathlib.Core.Path.{◌≡◌, refl}
use mathlib.Core.Bool.{true}
use native.Mathlib.Omega.{arith}
use lib.Count.{ones, ones_in}
use lib.Dec.{lit<}
use Rattle.ground.specs.Sweep.{every}
use Rattle.remainder.specs.Register.{run, times}
use Rattle.remainder.specs.Turned.{turned, weight}
use Rattle.pec.specs.Pec.{bit_step, byte_step, pec_of}
use Rattle.characters.specs.Character.{word_of}
use Rattle.characters.specs.Nibble.{nibble_word}
use Rattle.lines.specs.Line.{characters_of, line_of}
use Rattle.packing.specs.Words.{as_bytes}
use Rattle.questions.specs.Shape.{shape_of}
use Rattle.questions.specs.Bytes.{on_wire, sealed, answer_bytes}
use Rattle.questions.proofs.Good.{good_count}
use Rattle.promises.specs.WhereItEnds.{damage, WhereItEnds}
use Rattle.promises.proofs.Undetected.{ends, not_found}

-- bit 0 of device 14, from 15 devices on, leads to one bit of the PEC
four_ends : every (ends 14 1 15 2) 33 ≡ true
unfolding ends weight on_wire as_bytes run byte_step bit_step times ones ones_in
four_ends = refl

-- bit 2 of device 0 leads to two bits of the PEC
six_ends : every (ends 0 4 1 3) 33 ≡ true
unfolding ends weight on_wire as_bytes run byte_step bit_step times ones ones_in
six_ends = refl

pub where_it_ends : WhereItEnds
unfolding damage turned line_of characters_of answer_bytes sealed shape_of pec_of on_wire as_bytes run byte_step bit_step times nibble_word word_of
where_it_ends = record {
  four_bits_pass = λ q values all many. not_found q values all 14 1 (lit< tt) 15 2 (omega arith) four_ends (omega arith);
  six_bits_pass = λ q values all.
      not_found q values all 0 4 (lit< tt) 1 3 (omega arith) six_ends (good_count q all.good (omega (arith, all.kind))).0;
  document_01 = λ alive. (refl, refl);
}
