-- THE C SIDE, DAMAGE: demand 3 over bytes. The bytes of a READALL answer with check byte 00h are accepted undamaged, given room, and hand out each
-- device's register once, in address order, two bytes each, low first. With one to five line bits turned over for 1 to 14 devices, or one to
-- three for 15 to 32, the bytes of that line are turned away, and the output stays as it was. Claimed of every good READALL question, alive on and
-- off, any seed, any register, any values; of bits in any places, all those that a word's two bytes have; and of every answer that meets
-- `bmc_read`'s contract.
use Rattle.packing.specs.Words.{as_bytes}
use Rattle.c_reader.specs.ReadBytes.{ReadBytesDone}
use Rattle.promises.specs.ByNumber.{packed_number}
use Rattle.promises.specs.Demand3.{Detects}
use Rattle.promises.specs.CSide.{PackedAs}

abbrev pub CSideDamage : Type 0
CSideDamage = Detects ReadBytesDone packed_number as_bytes PackedAs
