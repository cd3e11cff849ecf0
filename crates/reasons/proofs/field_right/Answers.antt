-- `field_right` meets its contract: only the device is looked into.
use Rattle.std.proofs.Common.{sym, ap, ◌∙◌}
use Rattle.reasons.specs.Reason.{field_right}
use Rattle.reasons.proofs.field_right.Goals as goal

pub returns-in-Device : goal.returns-in-Device
returns-in-Device c =
    let a = c.args in
    c.one_device.ensures ∙ sym (ap (field_right a.q) c.in-Device.is)
