-- The starred numbers, computed from their definitions, all at once.
use mathlib.Core.Path.{refl}
use Rattle.remainder.specs.Register.{times, run}
use Rattle.pec.specs.Pec.{bit_step, byte_step, pec_of}
use Rattle.questions.specs.Shape.{shape_of}
use Rattle.packing.specs.Words.{as_bytes}
use Rattle.questions.specs.Bytes.{on_wire, sealed, fill_pairs, command_bytes, answer_bytes}
use Rattle.cells.specs.Voltage.{microvolts_of}
use Rattle.promises.specs.StarredNumbers.{StarredNumbers}

pub starred_numbers : StarredNumbers
unfolding command_bytes answer_bytes sealed on_wire as_bytes fill_pairs shape_of pec_of run byte_step times bit_step microvolts_of
starred_numbers = (refl, refl, refl, refl, refl, refl, refl, refl, refl, refl, refl, refl, refl, refl)
