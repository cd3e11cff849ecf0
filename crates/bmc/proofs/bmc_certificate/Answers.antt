-- `bmc_certificate` meets its contract: it is `certify`, its answer packed.
use mathlib.Core.Path.{ap, ◌∙◌}
use Rattle.bmc.specs.Exports.{packed_certified}
use Rattle.bmc.proofs.FewBytes.{few_bytes}
use Rattle.bmc.proofs.bmc_certificate.Goals as goal

pub packed_certified-requires : goal.packed_certified-requires
packed_certified-requires c = few_bytes c.args.file.now c.args.text.now c.certify-certified.result c.certify-certified.ensures.says

pub returns : goal.returns
returns c = record { says = c.packed_certified.ensures ∙ ap packed_certified c.certify-certified.ensures.says; leaves = c.certify-certified.ensures.leaves }
